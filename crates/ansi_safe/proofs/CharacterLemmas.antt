-- The styled bytes of a text of which what isn't allowed is left out.
use Rattle.std.proofs.Common.{◌≡◌, ℕ, suc, Bool, true, false, ◌&&◌, List, [], ◌∷◌, ◌++◌, flat_map, map, length, chars, encode_utf8, encode_utf8_all, if◌then◌else◌, refl, sym, ◌∙◌, ap, ap₂, subst, arith, append-nil, length-append}
use Rattle.std.specs.Prelude.{replicate}
use Rattle.std.specs.Str.{IsUtf8}
use Rattle.std.proofs.lemmas.Bool.{and_parts, or_parts}
use Rattle.std.proofs.lemmas.List.{length-replicate}
use Rattle.std.proofs.lemmas.Str.{encodes-chars, chars-nil}
use Rattle.ansi_items.specs.Sequences.{is_sgr}
use Rattle.ansi_items.specs.Pieces.{Piece, Text, Sequence, LoneEscape, spelling, ArePieces, pieces_of}
use Rattle.ansi_items.specs.Plain.{plain_bytes}
use Rattle.ansi_items.proofs.PieceLemmas.{pieces_are}
use Rattle.ansi_items.proofs.PlainLemmas.{one_text}
use Rattle.ansi_items.proofs.JoinLemmas.{spelled}
use Rattle.ansi_style.specs.declared.state.rendition.Rendition.{Rendition}
use Rattle.ansi_style.specs.Rendition.{plain_style}
use Rattle.ansi_style.specs.Styled.{styled, style_after}
use Rattle.ansi_style.specs.Written.{close_codes}
use Rattle.ansi_style.proofs.ReadBackLemmas.{code_pieces, styled_through-codes}
use Rattle.ansi_style.proofs.SgrLemmas.{apply-no_sgr}
use Rattle.ansi_style.proofs.SpelledLemmas.{styled-spelled}
use Rattle.ansi_style.proofs.StyledLemmas.{style_through, styled_through, styled_through-append, in_style, styled_byte, styled-pieces}
use Rattle.ansi_safe.specs.declared.policy.Links.{Links}
use Rattle.ansi_safe.specs.declared.policy.Policy.{Policy}
use Rattle.ansi_safe.specs.declared.policy.Rest.TheVariants.{Drop}
use Rattle.ansi_safe.specs.Links.{link_of, ending}
use Rattle.ansi_safe.specs.Safe.{is_allowed, all_allowed, keeps_links, is_clean_link, may_stay}
use Rattle.ansi_safe.specs.Sanitized.{instead, made_of_run, made_of, sanitized, allowed_bytes, allowed, marked}
use Rattle.ansi_safe.proofs.SafeLemmas.{good_stand, left, cleaned_pieces, cleaned-good, spelled-cleaned_pieces, link_end_pieces, ending_pieces, ended_pieces, ended-good, spelled-ended_pieces, piece_and_rest}
use Rattle.ansi_items.specs.Plain.{marks}

-- Marked elements.

marked-all : {X : Type 0} (b : Bool) (bs : List Bool) (xs ys : List X) → marked (replicate (length xs) b ++ bs) (xs ++ ys) ≡ (if b then xs else []) ++ marked bs ys
marked-all true bs [] ys = refl
marked-all false bs [] ys = refl
marked-all true bs (x ∷ xs) ys = ap (λ v. x ∷ v) (marked-all true bs xs ys)
marked-all false bs (x ∷ xs) ys = marked-all false bs xs ys

marked-append : {X : Type 0} (cs bs : List Bool) (xs ys : List X) → length cs ≡ length xs → marked (cs ++ bs) (xs ++ ys) ≡ marked cs xs ++ marked bs ys
marked-append [] bs [] ys same = refl
marked-append [] bs (x ∷ xs) ys same = absurd (omega (arith, same))
marked-append (a ∷ cs) bs [] ys same = absurd (omega (arith, same))
marked-append (a ∷ cs) bs (x ∷ xs) ys same = by a (marked-append cs bs xs ys (omega (arith, same)))
  where
    by : (b : Bool) → marked (cs ++ bs) (xs ++ ys) ≡ marked cs xs ++ marked bs ys → (if b then x ∷ marked (cs ++ bs) (xs ++ ys) else marked (cs ++ bs) (xs ++ ys)) ≡ (if b then x ∷ marked cs xs else marked cs xs) ++ marked bs ys
    by true later = ap (λ v. x ∷ v) later
    by false later = later

marked-map : {X Y : Type 0} (f : X → Y) (bs : List Bool) (xs : List X) → marked bs (map f xs) ≡ map f (marked bs xs)
marked-map f [] xs = refl
marked-map f (b ∷ bs) [] = refl
marked-map f (b ∷ bs) (x ∷ xs) = by b (marked-map f bs xs)
  where
    by : (b : Bool) → marked bs (map f xs) ≡ map f (marked bs xs) → (if b then f x ∷ marked bs (map f xs) else marked bs (map f xs)) ≡ map f (if b then x ∷ marked bs xs else marked bs xs)
    by true later = ap (λ v. f x ∷ v) later
    by false later = later

-- What stays of a run is its marked bytes.

length-allowed_bytes : (cs : List ℕ) → length (allowed_bytes cs) ≡ length (encode_utf8_all cs)
length-allowed_bytes [] = refl
length-allowed_bytes (c ∷ cs) =
    omega (arith, length-append (replicate (length (encode_utf8 c)) (is_allowed c cs)) (allowed_bytes cs), length-replicate (length (encode_utf8 c)) (is_allowed c cs), length-append (encode_utf8 c) (encode_utf8_all cs), length-allowed_bytes cs)

marked-run : (cs : List ℕ) → marked (allowed_bytes cs) (encode_utf8_all cs) ≡ encode_utf8_all (made_of_run Drop cs)
marked-run [] = refl
marked-run (c ∷ cs) = marked-all (is_allowed c cs) (allowed_bytes cs) (encode_utf8 c) (encode_utf8_all cs) ∙ by (is_allowed c cs) (marked-run cs)
  where
    by : (b : Bool) → marked (allowed_bytes cs) (encode_utf8_all cs) ≡ encode_utf8_all (made_of_run Drop cs) → (if b then encode_utf8 c else []) ++ marked (allowed_bytes cs) (encode_utf8_all cs) ≡ encode_utf8_all ((if b then c ∷ [] else []) ++ made_of_run Drop cs)
    by true later = ap (λ v. encode_utf8 c ++ v) later
    by false later = later

made_of_run-standing : (cs : List ℕ) → all_allowed cs ≡ true → made_of_run Drop cs ≡ cs
made_of_run-standing [] stand = refl
made_of_run-standing (c ∷ cs) stand =
    let both = and_parts (is_allowed c cs) (all_allowed cs) stand in
    ap (λ b. (if b then c ∷ [] else []) ++ made_of_run Drop cs) both.0 ∙ ap (λ v. c ∷ v) (made_of_run-standing cs both.1)

-- the bytes that a run becomes
run_becomes : (links : Links) (w : List ℕ) (b : Bool) → IsUtf8 w → may_stay links (Text w) ≡ b → (if b then w else encode_utf8_all (made_of_run Drop (chars w))) ≡ marked (allowed_bytes (chars w)) w
run_becomes links w true utf8 stays =
    sym (ap (marked (allowed_bytes (chars w))) (sym (encodes-chars w utf8)) ∙ marked-run (chars w) ∙ ap encode_utf8_all (made_of_run-standing (chars w) stays) ∙ encodes-chars w utf8)
run_becomes links w false utf8 goes = sym (ap (marked (allowed_bytes (chars w))) (sym (encodes-chars w utf8)) ∙ marked-run (chars w))

-- Piece by piece.

abbrev dropping : Links → Policy
dropping links = record { rest = Drop; links = links }

instead-nothing : (cs : List ℕ) → flat_map (instead Drop) cs ≡ []
instead-nothing [] = refl
instead-nothing (c ∷ cs) = instead-nothing cs

styled_through-one_text : (s : Rendition) (w : List ℕ) → styled_through s (one_text w) ≡ in_style s w
styled_through-one_text s [] = refl
styled_through-one_text s (b ∷ bs) = append-nil (in_style s (b ∷ bs))

style_through-one_text : (s : Rendition) (w : List ℕ) → style_through s (one_text w) ≡ s
style_through-one_text s [] = refl
style_through-one_text s (b ∷ bs) = refl

-- what is left of a piece has its marked bytes, and leads to the same style
record LeavesMarked (links : Links) (s : Rendition) (p : Piece) : Type 0 where
  bytes : styled_through s (left (dropping links) p) ≡ marked (allowed_bytes (chars (plain_bytes p))) (in_style s (plain_bytes p))
  after : style_through s (left (dropping links) p) ≡ style_through s (p ∷ [])

marked-none : (s : Rendition) → marked (allowed_bytes (chars [])) (in_style s []) ≡ []
marked-none s = ap (λ cs. marked (allowed_bytes cs) (in_style s [])) chars-nil

-- what is left of a piece, by whether it may stay
abbrev left_by : Piece → Bool → List Piece
left_by p b = if b then p ∷ [] else one_text (encode_utf8_all (made_of Drop p))

left_of-text : (links : Links) (s : Rendition) (w : List ℕ) → IsUtf8 w → LeavesMarked links s (Text w)
left_of-text links s w utf8 = by (may_stay links (Text w)) refl
  where
    bytes_by : (b : Bool) → styled_through s (left_by (Text w) b) ≡ in_style s (if b then w else encode_utf8_all (made_of_run Drop (chars w)))
    bytes_by true = append-nil (in_style s w)
    bytes_by false = styled_through-one_text s (encode_utf8_all (made_of_run Drop (chars w)))

    after_by : (b : Bool) → style_through s (left_by (Text w) b) ≡ s
    after_by true = refl
    after_by false = style_through-one_text s (encode_utf8_all (made_of_run Drop (chars w)))

    by : (b : Bool) → may_stay links (Text w) ≡ b → LeavesMarked links s (Text w)
    by b is =
        let same : left (dropping links) (Text w) ≡ left_by (Text w) b = ap (left_by (Text w)) is in
        record {
          bytes = ap (styled_through s) same ∙ bytes_by b ∙ ap (in_style s) (run_becomes links w b utf8 is) ∙ sym (marked-map (styled_byte s) (allowed_bytes (chars w)) w);
          after = ap (style_through s) same ∙ after_by b;
        }

left_of-sequence : (links : Links) (s : Rendition) (w : List ℕ) → LeavesMarked links s (Sequence w)
left_of-sequence links s w = by (may_stay links (Sequence w)) refl
  where
    by : (b : Bool) → may_stay links (Sequence w) ≡ b → LeavesMarked links s (Sequence w)
    by true is = record {
      bytes = ap (λ b. styled_through s (left_by (Sequence w) b)) is ∙ sym (marked-none s);
      after = ap (λ b. style_through s (left_by (Sequence w) b)) is;
    }
    by false is =
        let none : left (dropping links) (Sequence w) ≡ [] = ap (left_by (Sequence w)) is ∙ ap (λ cs. one_text (encode_utf8_all cs)) (instead-nothing (chars w)) in
        let no_sgr = (or_parts (is_sgr w) (keeps_links links && is_clean_link w) is).0 in
        record {
          bytes = ap (styled_through s) none ∙ sym (marked-none s);
          after = ap (style_through s) none ∙ sym (apply-no_sgr s w no_sgr);
        }

left_of-lone : (links : Links) (s : Rendition) → LeavesMarked links s LoneEscape
left_of-lone links s =
    let none : left (dropping links) LoneEscape ≡ [] = ap (λ cs. one_text (encode_utf8_all cs)) (instead-nothing (chars (spelling LoneEscape))) in
    record {
      bytes = ap (styled_through s) none ∙ sym (marked-none s);
      after = ap (style_through s) none ∙ sym (apply-no_sgr s (spelling LoneEscape) refl);
    }

left_of-piece : (links : Links) (s : Rendition) (p : Piece) → IsUtf8 (spelling p) → LeavesMarked links s p
left_of-piece links s (Text w) utf8 = left_of-text links s w utf8
left_of-piece links s (Sequence w) utf8 = left_of-sequence links s w
left_of-piece links s LoneEscape utf8 = left_of-lone links s

abbrev allowed_of : List Piece → List Bool
allowed_of ps = flat_map (λ p. allowed_bytes (chars (plain_bytes p))) ps

styled_through-cons : (s : Rendition) (p : Piece) (ps : List Piece) → styled_through s (p ∷ ps) ≡ in_style s (plain_bytes p) ++ styled_through (style_through s (p ∷ [])) ps
styled_through-cons s (Text w) ps = refl
styled_through-cons s (Sequence w) ps = refl
styled_through-cons s LoneEscape ps = refl

length-in_style : (s : Rendition) (w : List ℕ) → length (in_style s w) ≡ length w
length-in_style s [] = refl
length-in_style s (b ∷ w) = ap suc (length-in_style s w)

plain_bytes-utf8 : (p : Piece) → IsUtf8 (spelling p) → encode_utf8_all (chars (plain_bytes p)) ≡ plain_bytes p
plain_bytes-utf8 (Text w) utf8 = encodes-chars w utf8
plain_bytes-utf8 (Sequence w) utf8 = ap encode_utf8_all chars-nil
plain_bytes-utf8 LoneEscape utf8 = ap encode_utf8_all chars-nil

lefts-marked : (links : Links) (s : Rendition) (t : List ℕ) (ps : List Piece) → ArePieces t ps → IsUtf8 t → styled_through s (flat_map (left (dropping links)) ps) ≡ marked (allowed_of ps) (styled_through s ps)
lefts-marked links s t [] are utf8 = refl
lefts-marked links s t (p ∷ ps) are utf8 =
    let both = piece_and_rest p are.0 are.2 (subst IsUtf8 are.1 utf8) in
    let here = left_of-piece links s p both.0 in
    let mine = allowed_bytes (chars (plain_bytes p)) in
    let next = style_through s (p ∷ []) in
    let count : length mine ≡ length (in_style s (plain_bytes p))
    = length-allowed_bytes (chars (plain_bytes p)) ∙ ap length (plain_bytes-utf8 p both.0) ∙ sym (length-in_style s (plain_bytes p)) in
    styled_through-append s (left (dropping links) p) (flat_map (left (dropping links)) ps)
    ∙ ap₂ ◌++◌ here.bytes (ap (λ q. styled_through q (flat_map (left (dropping links)) ps)) here.after ∙ lefts-marked links next are.0 ps are.3 both.1)
    ∙ sym (marked-append mine (allowed_of ps) (in_style s (plain_bytes p)) (styled_through next ps) count)
    ∙ ap (marked (mine ++ allowed_of ps)) (sym (styled_through-cons s p ps))

-- What ends what is open has no plain bytes.

styled_through-link_end : (s : Rendition) (link : List ℕ) → styled_through s (link_end_pieces link) ≡ []
styled_through-link_end s [] = refl
styled_through-link_end s (b ∷ link) = refl

styled_through-ending : (s : Rendition) (t : List ℕ) → styled_through s (ending_pieces t) ≡ []
styled_through-ending s t =
    let link = link_of (marks t) in
    let xs = close_codes (style_after t) in
    styled_through-append s (link_end_pieces link) (code_pieces xs) ∙ ap₂ ◌++◌ (styled_through-link_end s link) (styled_through-codes (style_through s (link_end_pieces link)) xs)

pub sanitized-characters : (links : Links) (t : List ℕ) → IsUtf8 t → styled (sanitized (record { rest = Drop; links = links }) t) ≡ marked (allowed t) (styled t)
sanitized-characters links t utf8 =
    let policy = dropping links in
    let ps = cleaned_pieces policy t in
    let good = cleaned-good policy t utf8 in
    let all = ended_pieces ps in
    let spells : spelled all ≡ sanitized policy t = spelled-ended_pieces ps ∙ ap (λ u. u ++ ending u) (spelled-cleaned_pieces policy t) in
    ap styled (sym spells) ∙ styled-spelled all (good_stand links all (ended-good links ps good)) ∙ styled_through-append plain_style ps (ending_pieces (spelled ps))
    ∙ ap (λ v. styled_through plain_style ps ++ v) (styled_through-ending (style_through plain_style ps) (spelled ps)) ∙ append-nil (styled_through plain_style ps)
    ∙ lefts-marked links plain_style t (pieces_of t) (pieces_are t) utf8 ∙ ap (marked (allowed t)) (sym (styled-pieces t))
