-- What is shown of a text as one walk over its pieces, with what is left of its ends; a cut, also of a text without ESC.
use Rattle.ansi_slice.proofs.Common.{◌≡◌, ℕ, ◌-◌, ◌≤◌, inl, inr, Bool, true, false, not, ◌&&◌, List, [], ◌∷◌, ◌++◌, map, length, Option, Some, None, refl, sym, ◌∙◌, ap, ap₂, arith, slice_range, if◌then◌else◌, nat_lt, append-nil, length-append, IsFalse, unwrap_or, cases_lt, lt-ltb, le-ltb, Piece, Text, pieces_of, plain_of, plain, marks_of, marks_up_to, has_escape, plain_style, close, after_marks, style_at, interleaved, cut_up_to, cut, plain-bare, length-plain, mark_further_on, marks-bare, marks_of-text, marks_of-mark, marks_up_to-none, marks_up_to-further, marks_up_to-here, spelling}
use Rattle.ansi_search.proofs.SliceLemmas.{slice_range-none, slice_range-past, slice_range-append}
use Rattle.ansi_slice.proofs.InterleavedLemmas.{interleaved-nil, interleaved-bare, interleaved-text, interleaved-mark}

-- What is shown of the pieces that are left: s plain bytes are still to be passed over, and the end is e plain bytes away. Of the marks all are shown, or those up to the end.
abbrev pub interleaved_from : Bool → ℕ → ℕ → List Piece → List ℕ
interleaved_from all s e [] = []
interleaved_from all s e (Text w ∷ ps) = slice_range w s e ++ (if not all && nat_lt e (length w) then [] else interleaved_from all (s - length w) (e - length w) ps)
interleaved_from all s e (p ∷ ps) = spelling p ++ interleaved_from all s e ps

pub interleaved_from-text : (all : Bool) (s e : ℕ) (w : List ℕ) (ps : List Piece) → length w ≤ e → interleaved_from all s e (Text w ∷ ps) ≡ slice_range w s e ++ interleaved_from all (s - length w) (e - length w) ps
interleaved_from-text true s e w ps within = refl
interleaved_from-text false s e w ps within = ap (λ b. slice_range w s e ++ (if b then [] else interleaved_from false (s - length w) (e - length w) ps)) (le-ltb e (length w) within)

-- with all marks
pub interleaved-all : (ps : List Piece) (s e : ℕ) → interleaved (plain_of ps) s e (marks_of ps) ≡ interleaved_from true s e ps
interleaved-all [] s e = interleaved-nil s e
interleaved-all (Text w ∷ ps) s e =
    ap (interleaved (w ++ plain_of ps) s e) (marks_of-text w ps)
    ∙ interleaved-text w (plain_of ps) s e (marks_of ps)
    ∙ ap (λ v. slice_range w s e ++ v) (interleaved-all ps (s - length w) (e - length w))
interleaved-all (p ∷ ps) s e =
    ap (interleaved (plain_of ps) s e) (marks_of-mark p ps refl) ∙ interleaved-mark (spelling p) (plain_of ps) s e (marks_of ps) ∙ ap (λ v. spelling p ++ v) (interleaved-all ps s e)

-- with those up to the end: a text that goes on past it is the last to be shown
interleaved-marks_up_to : (ps : List Piece) (s e : ℕ) → interleaved (plain_of ps) s e (marks_up_to e (marks_of ps)) ≡ interleaved_from false s e ps
interleaved-marks_up_to [] s e = interleaved-nil s e
interleaved-marks_up_to (Text w ∷ ps) s e = elim (cases_lt e (length w)) [
  | inl last ↦ (
      ap (interleaved (w ++ plain_of ps) s e) (ap (marks_up_to e) (marks_of-text w ps) ∙ marks_up_to-none e (length w) (marks_of ps) last)
      ∙ interleaved-bare (w ++ plain_of ps) s e ∙ slice_range-append w (plain_of ps) s e
      ∙ ap₂ (λ v b. slice_range w s e ++ (if b then v else interleaved_from false (s - length w) (e - length w) ps))
      (slice_range-none (plain_of ps) (s - length w) (e - length w) (omega arith)) (sym (lt-ltb e (length w) last)))
  | inr within ↦ (
      ap (interleaved (w ++ plain_of ps) s e) (ap (marks_up_to e) (marks_of-text w ps) ∙ marks_up_to-further e (length w) (marks_of ps) within)
      ∙ interleaved-text w (plain_of ps) s e (marks_up_to (e - length w) (marks_of ps))
      ∙ ap (λ v. slice_range w s e ++ v) (interleaved-marks_up_to ps (s - length w) (e - length w)) ∙ sym (interleaved_from-text false s e w ps within))
]
interleaved-marks_up_to (p ∷ ps) s e =
    ap (interleaved (plain_of ps) s e) (ap (marks_up_to e) (marks_of-mark p ps refl) ∙ marks_up_to-here e (spelling p) (marks_of ps))
    ∙ interleaved-mark (spelling p) (plain_of ps) s e (marks_up_to e (marks_of ps)) ∙ ap (λ v. spelling p ++ v) (interleaved-marks_up_to ps s e)

-- a cut is the walk over all pieces, and a close
pub cut_up_to-walk : (t : List ℕ) (s e : ℕ) → cut_up_to t s e ≡ interleaved_from false s e (pieces_of t) ++ close (style_at t e)
cut_up_to-walk t s e = ap (λ v. v ++ close (style_at t e)) (interleaved-marks_up_to (pieces_of t) s e)

-- Ends at or past the end of the plain text give the same cut.

interleaved_from-past : (ps : List Piece) (s d e : ℕ) → length (plain_of ps) ≤ d → length (plain_of ps) ≤ e → interleaved_from false s d ps ≡ interleaved_from false s e ps
interleaved_from-past [] s d e past_d past_e = refl
interleaved_from-past (Text w ∷ ps) s d e past_d past_e =
    let size = length-append w (plain_of ps) in
    interleaved_from-text false s d w ps (omega arith)
    ∙ ap₂ (λ u v. u ++ v)
    (slice_range-past w s d (omega arith) ∙ sym (slice_range-past w s e (omega arith)))
    (interleaved_from-past ps (s - length w) (d - length w) (e - length w) (omega arith) (omega arith))
    ∙ sym (interleaved_from-text false s e w ps (omega arith))
interleaved_from-past (p ∷ ps) s d e past_d past_e = ap (λ v. spelling p ++ v) (interleaved_from-past ps s d e past_d past_e)

-- all marks are up to there
pub marks_up_to-marks_past : (e : ℕ) (ps : List Piece) → length (plain_of ps) ≤ e → marks_up_to e (marks_of ps) ≡ marks_of ps
marks_up_to-marks_past e [] past = refl
marks_up_to-marks_past e (Text w ∷ ps) past =
    let size = length-append w (plain_of ps) in
    ap (marks_up_to e) (marks_of-text w ps) ∙ marks_up_to-further e (length w) (marks_of ps) (omega arith)
    ∙ ap (map (mark_further_on (length w))) (marks_up_to-marks_past (e - length w) ps (omega arith)) ∙ sym (marks_of-text w ps)
marks_up_to-marks_past e (p ∷ ps) past =
    let mark = marks_of-mark p ps refl in
    ap (marks_up_to e) mark ∙ marks_up_to-here e (spelling p) (marks_of ps) ∙ ap (λ ms. record { place = 0; bytes = spelling p } ∷ ms) (marks_up_to-marks_past e ps past) ∙ sym mark

-- no end is any end past the text
pub cut_up_to-unwrap_or : (t : List ℕ) (s : ℕ) (end : Option ℕ) (top : ℕ) → length t ≤ top → cut_up_to t s (unwrap_or end top) ≡ cut t s end
unfolding cut
cut_up_to-unwrap_or t s None top past =
    let n = length (plain t) in
    let fits : n ≤ top = omega (arith, length-plain t) in
    let style : style_at t top ≡ style_at t n = ap (after_marks plain_style) (marks_up_to-marks_past top (pieces_of t) fits ∙ sym (marks_up_to-marks_past n (pieces_of t) (omega arith))) in
    cut_up_to-walk t s top ∙ ap₂ (λ v c. v ++ close c) (interleaved_from-past (pieces_of t) s top n fits (omega arith)) style
    ∙ sym (cut_up_to-walk t s n)
cut_up_to-unwrap_or t s (Some e) top past = refl

-- Without ESC, a cut is a slice.

pub cut_up_to-bare : (t : List ℕ) (s e : ℕ) → IsFalse (has_escape t) → cut_up_to t s e ≡ slice_range t s e
cut_up_to-bare t s e none =
    ap₂ (λ x ms. interleaved x s e (marks_up_to e ms) ++ close (after_marks plain_style (marks_up_to e ms))) (plain-bare t none) (marks-bare t none)
    ∙ append-nil (interleaved t s e []) ∙ interleaved-bare t s e
