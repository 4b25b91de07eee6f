-- The sequences that aren't SGRs, and lone escapes, at their places.
use Rattle.std.proofs.Common.{◌≡◌, ℕ, ◌+◌, Bool, true, false, not, List, [], ◌∷◌, ◌++◌, length, filter, map, refl, sym, ◌∙◌, ap, ap₂, arith, IsTrue, if◌then◌else◌}
use Rattle.std.proofs.lemmas.Bool.{cond_both}
use Rattle.std.proofs.lemmas.List.{length-append}
use Rattle.ansi_items.specs.Sequences.{is_sgr}
use Rattle.ansi_items.specs.Pieces.{Piece, Text, ArePieces, spelling, pieces_of, after_text, merged}
use Rattle.ansi_items.specs.Plain.{Mark, marks_of, marks, is_whole}
use Rattle.ansi_items.proofs.PieceLemmas.{pieces_are}
use Rattle.ansi_items.proofs.JoinLemmas.{AllStandAnywhere, pieces_of-spelled, pieces_stand}
use Rattle.ansi_style.proofs.MarkLemmas.{mark_further_on, marks_of-text, marks_of-mark}
use Rattle.ansi_blocks.specs.Blocks.{without_sgrs}
use Rattle.ansi_restyle.specs.Restyled.{other_marks}
use Rattle.ansi_restyle.proofs.OtherLemmas.{is_sgr-text}

-- the marks that aren't SGRs
abbrev pub others : List Mark → List Mark
others ms = filter (λ (m : Mark). not (is_sgr m.bytes)) ms

-- the pieces that aren't SGRs
abbrev other_pieces : List Piece → List Piece
other_pieces ps = filter (λ p. not (is_sgr (spelling p))) ps

pub others-further : (n : ℕ) (ms : List Mark) → others (map (mark_further_on n) ms) ≡ map (mark_further_on n) (others ms)
others-further n [] = refl
others-further n (m ∷ ms) = by_kind (is_sgr m.bytes) (others-further n ms)
  where
    by_kind : (b : Bool) → others (map (mark_further_on n) ms) ≡ map (mark_further_on n) (others ms)
        → (if not b then mark_further_on n m ∷ others (map (mark_further_on n) ms) else others (map (mark_further_on n) ms)) ≡ map (mark_further_on n) (if not b then m ∷ others ms else others ms)
    by_kind true more = more
    by_kind false more = ap (λ ks. mark_further_on n m ∷ ks) more

others-mark : (p : Piece) (ps : List Piece) → ((qs : List Piece) → marks_of (p ∷ qs) ≡ record { place = 0; bytes = spelling p } ∷ marks_of qs) → marks_of (other_pieces ps) ≡ others (marks_of ps) → marks_of (other_pieces (p ∷ ps)) ≡ others (marks_of (p ∷ ps))
others-mark p ps first more = by_kind (is_sgr (spelling p)) ∙ sym (ap others (first ps))
  where
    by_kind : (b : Bool) → marks_of (if not b then p ∷ other_pieces ps else other_pieces ps) ≡ (if not b then record { place = 0; bytes = spelling p } ∷ others (marks_of ps) else others (marks_of ps))
    by_kind true = more
    by_kind false = first (other_pieces ps) ∙ ap (λ ks. record { place = 0; bytes = spelling p } ∷ ks) more

others-pieces : (t : List ℕ) (ps : List Piece) → ArePieces t ps → marks_of (other_pieces ps) ≡ others (marks_of ps)
others-pieces t [] are = refl
others-pieces t (Text w ∷ ps) are =
    ap (λ b. marks_of (if not b then Text w ∷ other_pieces ps else other_pieces ps)) (is_sgr-text w are.2.0 are.2.1)
    ∙ marks_of-text w (other_pieces ps) ∙ ap (map (mark_further_on (length w))) (others-pieces are.0 ps are.3)
    ∙ sym (ap others (marks_of-text w ps) ∙ others-further (length w) (marks_of ps))
others-pieces t (p ∷ ps) are = others-mark p ps (λ qs. marks_of-mark p qs refl) (others-pieces are.0 ps are.3)

-- Texts that touch may be joined.

pub further_twice : (n k : ℕ) (ms : List Mark) → map (mark_further_on n) (map (mark_further_on k) ms) ≡ map (mark_further_on (n + k)) ms
further_twice n k [] = refl
further_twice n k (m ∷ ms) = (let sum : n + (k + m.place) ≡ n + k + m.place = omega arith in ap₂ (λ i ks. record m { place = i } ∷ ks) sum (further_twice n k ms))

marks_of-after_text : (w : List ℕ) (ps : List Piece) → marks_of (after_text w ps) ≡ map (mark_further_on (length w)) (marks_of ps)
marks_of-after_text w [] = refl
marks_of-after_text w (Text v ∷ ps) =
    marks_of-text (w ++ v) ps ∙ ap (λ k. map (mark_further_on k) (marks_of ps)) (length-append w v)
    ∙ sym (ap (map (mark_further_on (length w))) (marks_of-text v ps) ∙ further_twice (length w) (length v) (marks_of ps))
marks_of-after_text w (p ∷ ps) = marks_of-text w (p ∷ ps)

pub marks_of-merged : (ps : List Piece) → marks_of (merged ps) ≡ marks_of ps
marks_of-merged [] = refl
marks_of-merged (Text w ∷ ps) = marks_of-after_text w (merged ps) ∙ ap (map (mark_further_on (length w))) (marks_of-merged ps) ∙ sym (marks_of-text w ps)
marks_of-merged (p ∷ ps) = marks_of-mark p (merged ps) refl ∙ ap (λ ms. record { place = 0; bytes = spelling p } ∷ ms) (marks_of-merged ps) ∙ sym (marks_of-mark p ps refl)

-- So they are the marks of the text without its SGRs.

pub filter_stand : (f : Piece → Bool) (ps : List Piece) → AllStandAnywhere ps → AllStandAnywhere (filter f ps)
filter_stand f [] all = tt
filter_stand f (p ∷ ps) all = cond_both (f p) (p ∷ filter f ps) (filter f ps) AllStandAnywhere (λ kept. (all.0, filter_stand f ps all.1)) (λ out. filter_stand f ps all.1)

marks-without_sgrs : (t : List ℕ) → IsTrue (is_whole t) → marks (without_sgrs t) ≡ others (marks t)
marks-without_sgrs t whole =
    let ps = pieces_of t in
    ap marks_of (pieces_of-spelled (other_pieces ps) (filter_stand (λ p. not (is_sgr (spelling p))) ps (pieces_stand t whole)))
    ∙ marks_of-merged (other_pieces ps) ∙ others-pieces t ps (pieces_are t)

pub other_marks-stay : (t u : List ℕ) → IsTrue (is_whole t) → IsTrue (is_whole u) → without_sgrs u ≡ without_sgrs t → other_marks u ≡ other_marks t
other_marks-stay t u whole_t whole_u same = sym (marks-without_sgrs u whole_u) ∙ ap marks same ∙ marks-without_sgrs t whole_t
