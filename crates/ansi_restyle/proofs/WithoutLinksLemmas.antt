-- A text without its link sequences.
use Rattle.std.proofs.Common.{◌≡◌, ◌≢◌, ℕ, ◌≤◌, Bool, true, false, not, ◌||◌, List, [], ◌∷◌, ◌++◌, length, map, filter, refl, sym, ◌∙◌, ap, arith, IsTrue, if◌then◌else◌, ◌==◌, length-append}
use Rattle.std.specs.List.{list_all, list_any}
use Rattle.std.proofs.lemmas.Bool.{and_parts}
use Rattle.std.proofs.lemmas.Bool.Decides.{nat_tests}
use Rattle.ansi_items.specs.Bytes.{is_plain_byte}
use Rattle.ansi_items.specs.Sequences.{is_sgr}
use Rattle.ansi_items.specs.Pieces.{Piece, Text, spelling, pieces_of}
use Rattle.ansi_items.specs.Plain.{Mark, marks_of, is_whole}
use Rattle.ansi_items.proofs.JoinLemmas.{spelled, AllStandAnywhere, pieces_of-spelled, is_whole-spelled, pieces_stand, spelled-pieces_of}
use Rattle.ansi_style.specs.declared.state.rendition.Rendition.{Rendition}
use Rattle.ansi_style.specs.Rendition.{plain_style, known}
use Rattle.ansi_style.specs.Sgr.{apply}
use Rattle.ansi_style.specs.Styled.{styled, unstyled}
use Rattle.ansi_style.proofs.MarkLemmas.{mark_further_on, marks_of-text, marks_of-mark}
use Rattle.ansi_style.proofs.SgrLemmas.{apply-no_sgr}
use Rattle.ansi_style.proofs.StyledLemmas.{style_through, styled_through, styled_byte, styled_from-pieces, style_after_from-pieces, unstyled-styled}
use Rattle.ansi_style.proofs.SpelledLemmas.{styled_from-spelled, style_after_from-spelled}
use Rattle.ansi_safe.specs.Links.{is_link}
use Rattle.ansi_safe.proofs.LinkLemmas.{is_link-sgr}
use Rattle.ansi_restyle.specs.Links.{has_link, without_links, IsWithoutLinks}
use Rattle.ansi_restyle.proofs.StayLemmas.{filter_stand, marks_of-merged}

-- the pieces that are no link sequences
abbrev pub unlinked : List Piece → List Piece
unlinked ps = filter (λ p. not (is_link (spelling p))) ps

-- a run of text is none

pub is_link-text : (w : List ℕ) → w ≢ [] → IsTrue (list_all is_plain_byte w) → is_link w ≡ false
is_link-text [] some bare = absurd (some refl)
is_link-text (b ∷ w) some bare =
    let first : IsTrue (is_plain_byte b) = (and_parts (is_plain_byte b) (list_all is_plain_byte w) bare).0 in
    let apart : (27 == b) ≡ false = grind (arith, nat_tests) in
    rw apart

-- and a link sequence changes no style
pub apply-link : (s : Rendition) (w : List ℕ) → is_link w ≡ true → apply s w ≡ s
apply-link s w link = apply-no_sgr s w (by_test (is_sgr w) refl)
  where
    by_test : (b : Bool) → is_sgr w ≡ b → b ≡ false
    by_test true is = absurd (let no : true ≡ false = sym link ∙ is_link-sgr w is in cc no)
    by_test false is = refl

-- If there is none, nothing changes.

all_stay : (ps : List Piece) → list_any (λ p. is_link (spelling p)) ps ≡ false → unlinked ps ≡ ps
all_stay [] none = refl
all_stay (p ∷ ps) none = by_test (is_link (spelling p)) none (all_stay ps)
  where
    by_test : (b : Bool) → (b || list_any (λ p. is_link (spelling p)) ps) ≡ false → (list_any (λ p. is_link (spelling p)) ps ≡ false → unlinked ps ≡ ps) → (if not b then p ∷ unlinked ps else unlinked ps) ≡ p ∷ ps
    by_test true none more = absurd (cc none)
    by_test false none more = ap (λ qs. p ∷ qs) (more none)

pub without_links-none : (t : List ℕ) → has_link t ≡ false → without_links t ≡ t
without_links-none t none = ap spelled (all_stay (pieces_of t) none) ∙ spelled-pieces_of t

-- It is no longer than the text.

length-unlinked : (ps : List Piece) → length (spelled (unlinked ps)) ≤ length (spelled ps)
length-unlinked [] = omega arith
length-unlinked (p ∷ ps) = by_test (is_link (spelling p)) (length-unlinked ps)
  where
    by_test : (b : Bool) → length (spelled (unlinked ps)) ≤ length (spelled ps) → length (spelled (if not b then p ∷ unlinked ps else unlinked ps)) ≤ length (spelled (p ∷ ps))
    by_test true more = omega (arith, length-append (spelling p) (spelled ps), more)
    by_test false more = omega (arith, length-append (spelling p) (spelled (unlinked ps)), length-append (spelling p) (spelled ps), more)

pub length-without_links : (t : List ℕ) → length (without_links t) ≤ length t
length-without_links t = omega (arith, length-unlinked (pieces_of t), ap length (spelled-pieces_of t))

-- Its pieces have the same styled bytes, and leave the same style open.

styled_through-unlinked : (s : Rendition) (ps : List Piece) → AllStandAnywhere ps → styled_through s (unlinked ps) ≡ styled_through s ps
styled_through-unlinked s [] all = refl
styled_through-unlinked s (Text w ∷ ps) all =
    ap (λ b. styled_through s (if not b then Text w ∷ unlinked ps else unlinked ps)) (is_link-text w all.0.0 all.0.1)
    ∙ ap (λ v. map (styled_byte s) w ++ v) (styled_through-unlinked s ps all.1)
styled_through-unlinked s (p ∷ ps) all = by_test (is_link (spelling p)) refl (λ r. styled_through-unlinked r ps all.1)
  where
    by_test : (b : Bool) → is_link (spelling p) ≡ b → ((r : Rendition) → styled_through r (unlinked ps) ≡ styled_through r ps) → styled_through s (if not b then p ∷ unlinked ps else unlinked ps) ≡ styled_through (apply s (spelling p)) ps
    by_test true link more = more s ∙ ap (λ r. styled_through r ps) (sym (apply-link s (spelling p) link))
    by_test false other more = more (apply s (spelling p))

style_through-unlinked : (s : Rendition) (ps : List Piece) → AllStandAnywhere ps → style_through s (unlinked ps) ≡ style_through s ps
style_through-unlinked s [] all = refl
style_through-unlinked s (Text w ∷ ps) all =
    ap (λ b. style_through s (if not b then Text w ∷ unlinked ps else unlinked ps)) (is_link-text w all.0.0 all.0.1) ∙ style_through-unlinked s ps all.1
style_through-unlinked s (p ∷ ps) all = by_test (is_link (spelling p)) refl (λ r. style_through-unlinked r ps all.1)
  where
    by_test : (b : Bool) → is_link (spelling p) ≡ b → ((r : Rendition) → style_through r (unlinked ps) ≡ style_through r ps) → style_through s (if not b then p ∷ unlinked ps else unlinked ps) ≡ style_through (apply s (spelling p)) ps
    by_test true link more = more s ∙ ap (λ r. style_through r ps) (sym (apply-link s (spelling p) link))
    by_test false other more = more (apply s (spelling p))

-- The other marks are at their places.

abbrev pub others : List Mark → List Mark
others ms = filter (λ (m : Mark). not (is_link m.bytes)) ms

others-further : (n : ℕ) (ms : List Mark) → others (map (mark_further_on n) ms) ≡ map (mark_further_on n) (others ms)
others-further n [] = refl
others-further n (m ∷ ms) = by_test (is_link m.bytes) (others-further n ms)
  where
    by_test : (b : Bool) → others (map (mark_further_on n) ms) ≡ map (mark_further_on n) (others ms)
        → (if not b then mark_further_on n m ∷ others (map (mark_further_on n) ms) else others (map (mark_further_on n) ms)) ≡ map (mark_further_on n) (if not b then m ∷ others ms else others ms)
    by_test true more = more
    by_test false more = ap (λ ks. mark_further_on n m ∷ ks) more

others-mark : (p : Piece) (ps : List Piece) → ((qs : List Piece) → marks_of (p ∷ qs) ≡ record { place = 0; bytes = spelling p } ∷ marks_of qs) → marks_of (unlinked ps) ≡ others (marks_of ps) → marks_of (unlinked (p ∷ ps)) ≡ others (marks_of (p ∷ ps))
others-mark p ps first more = by_test (is_link (spelling p)) ∙ sym (ap others (first ps))
  where
    by_test : (b : Bool) → marks_of (if not b then p ∷ unlinked ps else unlinked ps) ≡ (if not b then record { place = 0; bytes = spelling p } ∷ others (marks_of ps) else others (marks_of ps))
    by_test true = more
    by_test false = first (unlinked ps) ∙ ap (λ ks. record { place = 0; bytes = spelling p } ∷ ks) more

others-pieces : (ps : List Piece) → AllStandAnywhere ps → marks_of (unlinked ps) ≡ others (marks_of ps)
others-pieces [] all = refl
others-pieces (Text w ∷ ps) all =
    ap (λ b. marks_of (if not b then Text w ∷ unlinked ps else unlinked ps)) (is_link-text w all.0.0 all.0.1)
    ∙ marks_of-text w (unlinked ps) ∙ ap (map (mark_further_on (length w))) (others-pieces ps all.1)
    ∙ sym (ap others (marks_of-text w ps) ∙ others-further (length w) (marks_of ps))
others-pieces (p ∷ ps) all = others-mark p ps (λ qs. marks_of-mark p qs refl) (others-pieces ps all.1)

-- So is a whole text without its links.

pub is_without_links : (t : List ℕ) → IsTrue (is_whole t) → IsWithoutLinks t (without_links t)
is_without_links t whole =
    let ps = pieces_of t in
    let all = pieces_stand t whole in
    let stand = filter_stand (λ p. not (is_link (spelling p))) ps all in
    let u = without_links t in
    let bytes : styled u ≡ styled t
    = styled_from-spelled plain_style (unlinked ps) stand ∙ styled_through-unlinked plain_style ps all ∙ sym (styled_from-pieces plain_style t) in
    record {
      styled_bytes = bytes;
      plain_text = sym (unstyled-styled u) ∙ ap unstyled bytes ∙ unstyled-styled t;
      other_marks = ap marks_of (pieces_of-spelled (unlinked ps) stand) ∙ marks_of-merged (unlinked ps) ∙ others-pieces ps all;
      whole = is_whole-spelled (unlinked ps) stand;
      open_at_end = ap known (style_after_from-spelled plain_style (unlinked ps) stand ∙ style_through-unlinked plain_style ps all ∙ sym (style_after_from-pieces plain_style t));
    }
