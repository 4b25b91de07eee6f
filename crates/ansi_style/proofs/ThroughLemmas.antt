-- The effect of pieces, one after another, on a state that sequences change, such as a style or a link, and their plain bytes, each with what is seen of the state there.
use Rattle.ansi_style.proofs.Common.{◌≡◌, ℕ, zero, suc, ◌+◌, ◌<◌, List, [], ◌∷◌, ◌++◌, map, length, refl, sym, ◌∙◌, ap, ap₂, arith, append_assoc, slice_index, map-append, range_with_len, Piece, Text, spelling, after_text, merged, plain_of, marks_of}
use Rattle.ansi_style.proofs.MarkLemmas.{state_after, state_after-further, state_by_marks, state_by_marks-before, state_by_marks-text, state_by_marks-mark, marks_of-text, marks_of-mark}

map-range-suc : {X : Type 0} (f : ℕ → X) (a n : ℕ) → map f (range_with_len (suc a) n) ≡ map (λ i. f (suc i)) (range_with_len a n)
map-range-suc f a zero = refl
map-range-suc f a (suc n) =
    let next : suc a + 1 ≡ suc (a + 1) = omega arith in
    ap (λ v. f (suc a) ∷ v) (ap (λ k. map f (range_with_len k n)) next ∙ map-range-suc f (a + 1) n)

module _ {S : Type 0} (step : S → List ℕ → S) where
  -- the state after the pieces, from the state s on
  abbrev pub state_through : S → List Piece → S
  state_through s [] = s
  state_through s (Text w ∷ ps) = state_through s ps
  state_through s (p ∷ ps) = state_through (step s (spelling p)) ps

  pub state_through-append : (s : S) (ps qs : List Piece) → state_through s (ps ++ qs) ≡ state_through (state_through s ps) qs
  state_through-append s [] qs = refl
  state_through-append s (Text w ∷ ps) qs = state_through-append s ps qs
  state_through-append s (p ∷ ps) qs = state_through-append (step s (spelling p)) ps qs

  -- texts that touch may be joined
  state_through-after_text : (s : S) (w : List ℕ) (ps : List Piece) → state_through s (after_text w ps) ≡ state_through s ps
  state_through-after_text s w (Text v ∷ ps) = refl
  state_through-after_text s w ps = refl

  pub state_through-merged : (s : S) (ps : List Piece) → state_through s (merged ps) ≡ state_through s ps
  state_through-merged s [] = refl
  state_through-merged s (Text w ∷ ps) = state_through-after_text s w (merged ps) ∙ state_through-merged s ps
  state_through-merged s (p ∷ ps) = state_through-merged (step s (spelling p)) ps

  pub state_after-marks_of : (s : S) (ps : List Piece) → state_after step s (marks_of ps) ≡ state_through s ps
  state_after-marks_of s [] = refl
  state_after-marks_of s (Text w ∷ ps) = ap (state_after step s) (marks_of-text w ps) ∙ state_after-further step s (length w) (marks_of ps) ∙ state_after-marks_of s ps
  state_after-marks_of s (p ∷ ps) = ap (state_after step s) (marks_of-mark p ps refl) ∙ state_after-marks_of (step s (spelling p)) ps

  module _ {B : Type 0} (seen : S → ℕ → B) where
    -- the plain bytes of the pieces, from the state s on
    abbrev pub seen_through : S → List Piece → List B
    seen_through s [] = []
    seen_through s (Text w ∷ ps) = map (seen s) w ++ seen_through s ps
    seen_through s (p ∷ ps) = seen_through (step s (spelling p)) ps

    pub seen_through-append : (s : S) (ps qs : List Piece) → seen_through s (ps ++ qs) ≡ seen_through s ps ++ seen_through (state_through s ps) qs
    seen_through-append s [] qs = refl
    seen_through-append s (Text w ∷ ps) qs =
        ap (λ v. map (seen s) w ++ v) (seen_through-append s ps qs) ∙ sym (append_assoc (map (seen s) w) (seen_through s ps) (seen_through (state_through s ps) qs))
    seen_through-append s (p ∷ ps) qs = seen_through-append (step s (spelling p)) ps qs

    seen_through-after_text : (s : S) (w : List ℕ) (ps : List Piece) → seen_through s (after_text w ps) ≡ map (seen s) w ++ seen_through s ps
    seen_through-after_text s w (Text v ∷ ps) =
        ap (λ u. u ++ seen_through s ps) (map-append (seen s) w v) ∙ append_assoc (map (seen s) w) (map (seen s) v) (seen_through s ps)
    seen_through-after_text s w ps = refl

    pub seen_through-merged : (s : S) (ps : List Piece) → seen_through s (merged ps) ≡ seen_through s ps
    seen_through-merged s [] = refl
    seen_through-merged s (Text w ∷ ps) = seen_through-after_text s w (merged ps) ∙ ap (λ u. map (seen s) w ++ u) (seen_through-merged s ps)
    seen_through-merged s (p ∷ ps) = seen_through-merged (step s (spelling p)) ps

    -- the bytes of x, each with what is seen of the state at its index
    abbrev pub seen_by : (ℕ → S) → List ℕ → List B
    seen_by state x = map (λ i. seen (state i) (slice_index x i)) (range_with_len 0 (length x))

    seen_by-cons : (state : ℕ → S) (b : ℕ) (x : List ℕ) → seen_by state (b ∷ x) ≡ seen (state 0) b ∷ seen_by (λ i. state (suc i)) x
    seen_by-cons state b x = ap (λ v. seen (state 0) b ∷ v) (map-range-suc (λ i. seen (state i) (slice_index (b ∷ x) i)) 0 (length x))

    pub seen_by-alike : (x : List ℕ) (f g : ℕ → S) → ((i : ℕ) → i < length x → f i ≡ g i) → seen_by f x ≡ seen_by g x
    seen_by-alike [] f g same = refl
    seen_by-alike (b ∷ x) f g same =
        seen_by-cons f b x
        ∙ ap₂ (λ s v. seen s b ∷ v) (same 0 (omega arith)) (seen_by-alike x (λ i. f (suc i)) (λ i. g (suc i)) (λ i below. same (suc i) (omega arith)))
        ∙ sym (seen_by-cons g b x)

    -- a text in one state, and what follows it
    seen_by-append : (s : S) (w x : List ℕ) (state : ℕ → S) → ((i : ℕ) → i < length w → state i ≡ s) → seen_by state (w ++ x) ≡ map (seen s) w ++ seen_by (λ i. state (length w + i)) x
    seen_by-append s [] x state same = seen_by-alike x state (λ i. state (0 + i)) (λ i below. ap state (omega arith))
    seen_by-append s (b ∷ w) x state same =
        seen_by-cons state b (w ++ x)
        ∙ ap₂ (λ q v. seen q b ∷ v) (same 0 (omega arith))
        (seen_by-append s w x (λ i. state (suc i)) (λ i below. same (suc i) (omega arith))
        ∙ ap (λ v. map (seen s) w ++ v) (seen_by-alike x (λ i. state (suc (length w + i))) (λ i. state (length (b ∷ w) + i)) (λ i below. ap state (omega arith))))

    -- so they are those of the pieces in turn
    pub seen_by-pieces : (s : S) (ps : List Piece) → seen_by (state_by_marks step s ps) (plain_of ps) ≡ seen_through s ps
    seen_by-pieces s [] = refl
    seen_by-pieces s (Text w ∷ ps) =
        let x = plain_of ps in
        seen_by-append s w x (state_by_marks step s (Text w ∷ ps)) (λ i below. state_by_marks-before step s w ps i below)
        ∙ ap (λ v. map (seen s) w ++ v)
        (seen_by-alike x (λ i. state_by_marks step s (Text w ∷ ps) (length w + i)) (state_by_marks step s ps) (λ i below. state_by_marks-text step s w ps i)
        ∙ seen_by-pieces s ps)
    seen_by-pieces s (p ∷ ps) =
        seen_by-alike (plain_of ps) (state_by_marks step s (p ∷ ps)) (state_by_marks step (step s (spelling p)) ps) (λ i below. state_by_marks-mark step s p ps i refl)
        ∙ seen_by-pieces (step s (spelling p)) ps

    -- without what is seen they are the plain bytes
    module _ (byte_of : B → ℕ) (is_byte : (s : S) (b : ℕ) → byte_of (seen s b) ≡ b) where
      pub bytes-seen : (s : S) (w : List ℕ) → map byte_of (map (seen s) w) ≡ w
      bytes-seen s [] = refl
      bytes-seen s (b ∷ w) = ap₂ (λ c v. c ∷ v) (is_byte s b) (bytes-seen s w)

      pub bytes-seen_through : (s : S) (ps : List Piece) → map byte_of (seen_through s ps) ≡ plain_of ps
      bytes-seen_through s [] = refl
      bytes-seen_through s (Text w ∷ ps) = map-append byte_of (map (seen s) w) (seen_through s ps) ∙ ap₂ (λ u v. u ++ v) (bytes-seen s w) (bytes-seen_through s ps)
      bytes-seen_through s (p ∷ ps) = bytes-seen_through (step s (spelling p)) ps
