-- What is kept of a text: all its marks, and of a whole text the slice of its styled bytes; it is whole, and leaves open what the text does.
use Rattle.ansi_slice.proofs.Common.{◌≡◌, ℕ, ◌-◌, true, List, [], ◌∷◌, ◌++◌, map, length, refl, sym, ◌∙◌, ap, arith, slice_range, IsTrue, Piece, Text, pieces_of, plain_of, plain, Mark, marks_of, marks, is_whole, plain_style, known, StyledByte, styled, unstyled, style_of, residue, interleaved, kept, IsKept, one_text, bytes-further, marks_of-text, marks_of-mark, spelled, pieces_stand, is_whole-spelled, styled-pieces, unstyled-styled, styled-spelled, residue-spelled, spelling}
use Rattle.ansi_search.proofs.SliceLemmas.{slice_range-from_past, slice_range-map, slice_range-append}
use Rattle.ansi_slice.proofs.ShownLemmas.{at_places, interleaved_pieces, spelled-interleaved_pieces, interleaved_pieces_stand, styled_through-interleaved_pieces, style_through-interleaved_pieces}

-- the pieces of what is kept
abbrev pub kept_pieces : ℕ → ℕ → List Piece → List Piece
kept_pieces a b ps = interleaved_pieces (λ p. true) a b ps

at_places-all : (ms : List Mark) → at_places (λ p. true) ms ≡ ms
at_places-all [] = refl
at_places-all (m ∷ ms) = ap (λ ks. m ∷ ks) (at_places-all ms)

pub spelled-kept_pieces : (t : List ℕ) (a b : ℕ) → spelled (kept_pieces a b (pieces_of t)) ≡ kept t a b
unfolding kept
spelled-kept_pieces t a b = spelled-interleaved_pieces (pieces_of t) (λ p. true) a b ∙ ap (interleaved (plain t) a b) (at_places-all (marks t))

-- Their plain bytes are the slice, and their marks are all marks.

plain_of-text_before : (w : List ℕ) (ps : List Piece) → plain_of (one_text w ++ ps) ≡ w ++ plain_of ps
plain_of-text_before [] ps = refl
plain_of-text_before (b ∷ w) ps = refl

plain_of-kept_pieces : (ps : List Piece) (a b : ℕ) → plain_of (kept_pieces a b ps) ≡ slice_range (plain_of ps) a b
plain_of-kept_pieces [] a b = sym (slice_range-from_past [] a b (omega arith))
plain_of-kept_pieces (Text w ∷ ps) a b = grind (arith, plain_of-text_before, slice_range-append, plain_of-kept_pieces ps (a - length w) (b - length w))
plain_of-kept_pieces (p ∷ ps) a b = plain_of-kept_pieces ps a b

abbrev bytes_of_marks : List Piece → List (List ℕ)
bytes_of_marks ps = map (λ (m : Mark). m.bytes) (marks_of ps)

bytes_of_marks-text : (w : List ℕ) (ps : List Piece) → bytes_of_marks (Text w ∷ ps) ≡ bytes_of_marks ps
bytes_of_marks-text w ps = ap (map (λ (m : Mark). m.bytes)) (marks_of-text w ps) ∙ bytes-further (length w) (marks_of ps)

bytes_of_marks-one_text : (w : List ℕ) (ps : List Piece) → bytes_of_marks (one_text w ++ ps) ≡ bytes_of_marks ps
bytes_of_marks-one_text [] ps = refl
bytes_of_marks-one_text (b ∷ w) ps = bytes_of_marks-text (b ∷ w) ps

bytes_of_marks-kept_pieces : (ps : List Piece) (a b : ℕ) → bytes_of_marks (kept_pieces a b ps) ≡ bytes_of_marks ps
bytes_of_marks-kept_pieces [] a b = refl
bytes_of_marks-kept_pieces (Text w ∷ ps) a b = grind (arith, bytes_of_marks-one_text, bytes_of_marks-text, bytes_of_marks-kept_pieces ps (a - length w) (b - length w))
bytes_of_marks-kept_pieces (p ∷ ps) a b =
    ap (map (λ (m : Mark). m.bytes)) (marks_of-mark p (kept_pieces a b ps) refl)
    ∙ ap (λ ws. spelling p ∷ ws) (bytes_of_marks-kept_pieces ps a b)
    ∙ sym (ap (map (λ (m : Mark). m.bytes)) (marks_of-mark p ps refl))

-- of every text, whole or not
pub is_kept : (t : List ℕ) (a b : ℕ) → IsKept t a b (kept t a b)
is_kept t a b = record {
  pieces = kept_pieces a b (pieces_of t);
  spelled = sym (spelled-kept_pieces t a b);
  plain_bytes = plain_of-kept_pieces (pieces_of t) a b;
  marks_stay = bytes_of_marks-kept_pieces (pieces_of t) a b;
}

-- Of a whole text.

pub styled-kept : (t : List ℕ) (a b : ℕ) → IsTrue (is_whole t) → styled (kept t a b) ≡ slice_range (styled t) a b
styled-kept t a b whole =
    let shown = kept_pieces a b (pieces_of t) in
    ap styled (sym (spelled-kept_pieces t a b))
    ∙ styled-spelled shown (interleaved_pieces_stand (pieces_of t) (λ p. true) a b (pieces_stand t whole))
    ∙ styled_through-interleaved_pieces (pieces_of t) plain_style (λ p. true) a b (λ p below. refl)
    ∙ ap (λ bs. slice_range bs a b) (sym (styled-pieces t))

pub residue-kept : (t : List ℕ) (a b : ℕ) → IsTrue (is_whole t) → residue (kept t a b) ≡ residue t
residue-kept t a b whole =
    let shown = kept_pieces a b (pieces_of t) in
    ap residue (sym (spelled-kept_pieces t a b))
    ∙ residue-spelled shown (interleaved_pieces_stand (pieces_of t) (λ p. true) a b (pieces_stand t whole))
    ∙ ap known (style_through-interleaved_pieces (pieces_of t) plain_style (λ p. true) a b)
    ∙ ap (λ ms. known (style_of ms)) (at_places-all (marks t))

pub is_whole-kept : (t : List ℕ) (a b : ℕ) → IsTrue (is_whole t) → IsTrue (is_whole (kept t a b))
is_whole-kept t a b whole =
    ap is_whole (sym (spelled-kept_pieces t a b))
    ∙ is_whole-spelled (kept_pieces a b (pieces_of t)) (interleaved_pieces_stand (pieces_of t) (λ p. true) a b (pieces_stand t whole))

pub plain-kept : (t : List ℕ) (a b : ℕ) → IsTrue (is_whole t) → plain (kept t a b) ≡ slice_range (plain t) a b
plain-kept t a b whole =
    sym (unstyled-styled (kept t a b)) ∙ ap unstyled (styled-kept t a b whole)
    ∙ sym (slice_range-map (λ (s : StyledByte). s.byte) (styled t) a b) ∙ ap (λ x. slice_range x a b) (unstyled-styled t)
