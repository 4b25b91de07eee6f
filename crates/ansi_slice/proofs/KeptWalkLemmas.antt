-- A kept text as one walk over the pieces, with what is left of its ends; and what is kept of all, and of a text without ESC.
use Rattle.ansi_slice.proofs.Common.{◌≡◌, ℕ, ◌-◌, ◌≤◌, true, List, [], ◌∷◌, ◌++◌, length, sym, ◌∙◌, ap, ap₂, arith, slice_range, append-nil, length-append, IsFalse, Piece, Text, ArePieces, pieces_of, plain_of, plain, has_escape, kept, pieces_are, one_text, pieces_of-bare, spelling}
use Rattle.ansi_search.proofs.SliceLemmas.{slice_range-past, slice_range-from_past}
use Rattle.ansi_slice.proofs.CutLemmas.{interleaved_from, interleaved-all}

-- a kept text is the walk over all pieces
pub kept-walk : (t : List ℕ) (s e : ℕ) → kept t s e ≡ interleaved_from true s e (pieces_of t)
unfolding kept
kept-walk t s e = interleaved-all (pieces_of t) s e

-- Of the whole plain text all is kept.

interleaved_from-all : (t : List ℕ) (ps : List Piece) (e : ℕ) → ArePieces t ps → length (plain_of ps) ≤ e → interleaved_from true 0 e ps ≡ t
interleaved_from-all t [] e are past = sym are
interleaved_from-all t (Text w ∷ ps) e are past =
    let size = length-append w (plain_of ps) in
    ap₂ (λ u v. u ++ v)
    (slice_range-past w 0 e (omega arith))
    (ap (λ s. interleaved_from true s (e - length w) ps) (omega arith) ∙ interleaved_from-all are.0 ps (e - length w) are.3 (omega arith))
    ∙ sym are.1
interleaved_from-all t (p ∷ ps) e are past = ap (λ v. spelling p ++ v) (interleaved_from-all are.0 ps e are.3 past) ∙ sym are.1

pub kept-all : (t : List ℕ) (e : ℕ) → length (plain t) ≤ e → kept t 0 e ≡ t
kept-all t e past = kept-walk t 0 e ∙ interleaved_from-all t (pieces_of t) e (pieces_are t) past

-- Without ESC, a kept text is a slice.

interleaved_from-one_text : (x : List ℕ) (s e : ℕ) → interleaved_from true s e (one_text x) ≡ slice_range x s e
interleaved_from-one_text [] s e = sym (slice_range-from_past [] s e (omega arith))
interleaved_from-one_text (b ∷ bs) s e = append-nil (slice_range (b ∷ bs) s e)

pub kept-bare : (t : List ℕ) (s e : ℕ) → IsFalse (has_escape t) → kept t s e ≡ slice_range t s e
kept-bare t s e none = kept-walk t s e ∙ ap (interleaved_from true s e) (pieces_of-bare t none) ∙ interleaved_from-one_text t s e
