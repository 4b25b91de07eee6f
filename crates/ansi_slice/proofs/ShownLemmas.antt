-- What is shown of a plain text with some of its marks, as pieces; what is read of them, and the state after them.
use Rattle.ansi_slice.proofs.Common.{◌≡◌, ℕ, ◌+◌, ◌-◌, ◌<◌, ◌≤◌, inl, inr, Bool, true, false, List, [], ◌∷◌, ◌++◌, map, length, drop, filter, refl, sym, ◌∙◌, ap, ap₂, arith, append-nil, slice_range, if◌then◌else◌, cond_both, cases_lt, flat_map-append, length-map, list_all, is_plain_byte, Piece, Text, Sequence, LoneEscape, spelling, Mark, plain_of, marks_of, Rendition, apply, after_marks, interleaved, one_text, mark_further_on, marks_of-text, marks_of-mark, spelled, AllStandAnywhere, stand-append, style_through, styled_through}
use Rattle.ansi_style.proofs.MarkLemmas.{state_after, state_after-further}
use Rattle.ansi_style.proofs.StyledLemmas.{styled_byte}
use Rattle.ansi_style.proofs.ThroughLemmas.{state_through, state_through-append, seen_through, seen_through-append}
use Rattle.ansi_search.proofs.SliceLemmas.{slice_range-none, slice_range-from_past, slice_range-map, slice_range-append, list_all-parts}
use Rattle.ansi_slice.proofs.InterleavedLemmas.{interleaved-mark, interleaved-nil, interleaved-text}

-- the marks at places that pass the test
abbrev pub at_places : (ℕ → Bool) → List Mark → List Mark
at_places test ms = filter (λ (m : Mark). test m.place) ms

pub at_places-further : (test : ℕ → Bool) (n : ℕ) (ms : List Mark) → at_places test (map (mark_further_on n) ms) ≡ map (mark_further_on n) (at_places (λ p. test (n + p)) ms)
at_places-further test n [] = refl
at_places-further test n (m ∷ ms) = grind (arith, at_places-further test n ms)

-- a piece, if the test passes
abbrev pub piece_when : Bool → Piece → List Piece
piece_when b p = if b then p ∷ [] else []

-- the pieces of what is shown: the bytes a..b of the texts, and the marks at places that pass the test
abbrev pub interleaved_pieces : (ℕ → Bool) → ℕ → ℕ → List Piece → List Piece
interleaved_pieces test a b [] = []
interleaved_pieces test a b (Text w ∷ ps) = one_text (slice_range w a b) ++ interleaved_pieces (λ p. test (length w + p)) (a - length w) (b - length w) ps
interleaved_pieces test a b (p ∷ ps) = piece_when (test 0) p ++ interleaved_pieces test a b ps

-- They spell what is shown.

pub spelled-one_text : (w : List ℕ) → spelled (one_text w) ≡ w
spelled-one_text [] = refl
spelled-one_text (b ∷ w) = append-nil (b ∷ w)

-- a mark at the front
interleaved-mark_at_front : (p : Piece) (test : ℕ → Bool) (x : List ℕ) (a b : ℕ) (ms : List Mark)
    → spelled (piece_when (test 0) p) ++ interleaved x a b (at_places test ms) ≡ interleaved x a b (at_places test (record { place = 0; bytes = spelling p } ∷ ms))
interleaved-mark_at_front p test x a b ms = grind (arith, append-nil, interleaved-mark)

pub spelled-interleaved_pieces : (ps : List Piece) (test : ℕ → Bool) (a b : ℕ) → spelled (interleaved_pieces test a b ps) ≡ interleaved (plain_of ps) a b (at_places test (marks_of ps))
spelled-interleaved_pieces [] test a b = sym (interleaved-nil a b)
spelled-interleaved_pieces (Text w ∷ ps) test a b =
    let n = length w in
    let later : ℕ → Bool = λ p. test (n + p) in
    flat_map-append spelling (one_text (slice_range w a b)) (interleaved_pieces later (a - n) (b - n) ps)
    ∙ ap₂ (λ u v. u ++ v) (spelled-one_text (slice_range w a b)) (spelled-interleaved_pieces ps later (a - n) (b - n))
    ∙ sym (interleaved-text w (plain_of ps) a b (at_places later (marks_of ps)))
    ∙ ap (interleaved (w ++ plain_of ps) a b) (sym (ap (at_places test) (marks_of-text w ps) ∙ at_places-further test n (marks_of ps)))
spelled-interleaved_pieces (p ∷ ps) test a b =
    flat_map-append spelling (piece_when (test 0) p) (interleaved_pieces test a b ps)
    ∙ ap (λ v. spelled (piece_when (test 0) p) ++ v) (spelled-interleaved_pieces ps test a b)
    ∙ interleaved-mark_at_front p test (plain_of ps) a b (marks_of ps)
    ∙ ap (λ ms. interleaved (plain_of ps) a b (at_places test ms)) (sym (marks_of-mark p ps refl))

-- If the pieces may come before anything, so may what is shown of them.

plain-slice_range : (x : List ℕ) (a b : ℕ) → list_all is_plain_byte x ≡ true → list_all is_plain_byte (slice_range x a b) ≡ true
plain-slice_range x a b all = (list_all-parts is_plain_byte (b - a) (drop a x) (list_all-parts is_plain_byte a x all).1).0

one_text_stands : (w : List ℕ) → list_all is_plain_byte w ≡ true → AllStandAnywhere (one_text w)
one_text_stands w all = grind arith

pub interleaved_pieces_stand : (ps : List Piece) (test : ℕ → Bool) (a b : ℕ) → AllStandAnywhere ps → AllStandAnywhere (interleaved_pieces test a b ps)
interleaved_pieces_stand [] test a b all = tt
interleaved_pieces_stand (Text w ∷ ps) test a b all = grind (arith, one_text_stands, plain-slice_range, stand-append, interleaved_pieces_stand ps (λ p. test (length w + p)) (a - length w) (b - length w) all.1)
interleaved_pieces_stand (Sequence w ∷ ps) test a b all = grind (arith, stand-append, interleaved_pieces_stand ps test a b all.1)
interleaved_pieces_stand (LoneEscape ∷ ps) test a b all = absurd all.0

-- What is read of them, from a state that sequences change.

module _ {S : Type 0} (step : S → List ℕ → S) where
  state_through-one_text : (s : S) (w : List ℕ) → state_through step s (one_text w) ≡ s
  state_through-one_text s [] = refl
  state_through-one_text s (b ∷ w) = refl

  state_through-mark : (p : Piece) (s : S) (c : Bool) (ms : List Mark) → state_through step s (p ∷ []) ≡ step s (spelling p)
      → state_after step (state_through step s (piece_when c p)) ms ≡ state_after step s (if c then record { place = 0; bytes = spelling p } ∷ ms else ms)
  state_through-mark p s true ms is = ap (λ q. state_after step q ms) is
  state_through-mark p s false ms is = refl

  -- the state after them is that after the marks that are shown
  pub state_through-interleaved_pieces : (ps : List Piece) (s : S) (test : ℕ → Bool) (a b : ℕ) → state_through step s (interleaved_pieces test a b ps) ≡ state_after step s (at_places test (marks_of ps))
  state_through-interleaved_pieces [] s test a b = refl
  state_through-interleaved_pieces (Text w ∷ ps) s test a b =
      let n = length w in
      let later : ℕ → Bool = λ p. test (n + p) in
      let rest = interleaved_pieces later (a - n) (b - n) ps in
      state_through-append step s (one_text (slice_range w a b)) rest
      ∙ ap (λ q. state_through step q rest) (state_through-one_text s (slice_range w a b))
      ∙ state_through-interleaved_pieces ps s later (a - n) (b - n)
      ∙ sym (ap (state_after step s) (ap (at_places test) (marks_of-text w ps) ∙ at_places-further test n (marks_of ps)) ∙ state_after-further step s n (at_places later (marks_of ps)))
  state_through-interleaved_pieces (p ∷ ps) s test a b =
      state_through-append step s (piece_when (test 0) p) (interleaved_pieces test a b ps)
      ∙ state_through-interleaved_pieces ps (state_through step s (piece_when (test 0) p)) test a b
      ∙ state_through-mark p s (test 0) (at_places test (marks_of ps)) refl
      ∙ ap (λ ms. state_after step s (at_places test ms)) (sym (marks_of-mark p ps refl))

  module _ {B : Type 0} (seen : S → ℕ → B) where
    seen_through-one_text : (s : S) (w : List ℕ) → seen_through step seen s (one_text w) ≡ map (seen s) w
    seen_through-one_text s [] = refl
    seen_through-one_text s (b ∷ w) = append-nil (map (seen s) (b ∷ w))

    -- an end that isn't after the start shows no byte
    seen_through-interleaved_none : (ps : List Piece) (s : S) (test : ℕ → Bool) (a b : ℕ) → b ≤ a → seen_through step seen s (interleaved_pieces test a b ps) ≡ []
    seen_through-interleaved_none [] s test a b none = refl
    seen_through-interleaved_none (Text w ∷ ps) s test a b none =
        let later : ℕ → Bool = λ p. test (length w + p) in
        ap (λ v. seen_through step seen s (one_text v ++ interleaved_pieces later (a - length w) (b - length w) ps)) (slice_range-none w a b none)
        ∙ seen_through-interleaved_none ps s later (a - length w) (b - length w) (omega arith)
    seen_through-interleaved_none (p ∷ ps) s test a b none =
        cond_both (test 0) (p ∷ []) [] (λ qs. seen_through step seen s (qs ++ interleaved_pieces test a b ps) ≡ [])
        (λ shown. seen_through-interleaved_none ps (step s (spelling p)) test a b none)
        (λ hidden. seen_through-interleaved_none ps s test a b none)

    -- if each mark before the end is shown, their bytes are the slice
    pub seen_through-interleaved_pieces : (ps : List Piece) (s : S) (test : ℕ → Bool) (a b : ℕ) → ((p : ℕ) → p < b → test p ≡ true)
        → seen_through step seen s (interleaved_pieces test a b ps) ≡ slice_range (seen_through step seen s ps) a b
    seen_through-interleaved_pieces [] s test a b before = sym (slice_range-from_past [] a b (omega arith))
    seen_through-interleaved_pieces (Text w ∷ ps) s test a b before =
        let n = length w in
        let later : ℕ → Bool = λ p. test (n + p) in
        let rest = interleaved_pieces later (a - n) (b - n) ps in
        let size : length (map (seen s) w) ≡ n = length-map w _ in
        seen_through-append step seen s (one_text (slice_range w a b)) rest
        ∙ ap₂ (λ u v. u ++ v)
        (seen_through-one_text s (slice_range w a b) ∙ sym (slice_range-map (seen s) w a b))
        (ap (λ q. seen_through step seen q rest) (state_through-one_text s (slice_range w a b)) ∙ seen_through-interleaved_pieces ps s later (a - n) (b - n) (λ p below. before (n + p) (omega arith)))
        ∙ sym (slice_range-append (map (seen s) w) (seen_through step seen s ps) a b
        ∙ ap (λ k. slice_range (map (seen s) w) a b ++ slice_range (seen_through step seen s ps) (a - k) (b - k)) size)
    seen_through-interleaved_pieces (p ∷ ps) s test a b before = elim (cases_lt 0 b) [
      | inl some ↦ (
          ap (λ c. seen_through step seen s (piece_when c p ++ interleaved_pieces test a b ps)) (before 0 some)
          ∙ seen_through-interleaved_pieces ps (step s (spelling p)) test a b before)
      | inr none ↦ seen_through-interleaved_none (p ∷ ps) s test a b (omega arith) ∙ sym (slice_range-none (seen_through step seen (step s (spelling p)) ps) a b (omega arith))
    ]

-- A style.

pub style_through-interleaved_pieces : (ps : List Piece) (s : Rendition) (test : ℕ → Bool) (a b : ℕ) → style_through s (interleaved_pieces test a b ps) ≡ after_marks s (at_places test (marks_of ps))
style_through-interleaved_pieces = state_through-interleaved_pieces apply

pub styled_through-interleaved_pieces : (ps : List Piece) (s : Rendition) (test : ℕ → Bool) (a b : ℕ) → ((p : ℕ) → p < b → test p ≡ true)
    → styled_through s (interleaved_pieces test a b ps) ≡ slice_range (styled_through s ps) a b
styled_through-interleaved_pieces = seen_through-interleaved_pieces apply styled_byte
