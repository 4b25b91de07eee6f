-- What is shown of a plain text, after a text or a mark at its front.
use Rattle.ansi_slice.proofs.Common.{◌≡◌, ℕ, zero, suc, ◌+◌, ◌-◌, true, false, ◌&&◌, ◌==◌, List, [], ◌∷◌, ◌++◌, map, length, take, drop, refl, sym, ◌∙◌, ap, ap₂, arith, flat_map, slice_range, if◌then◌else◌, nat_le, nat_lt, append_assoc, append-nil, nat_tests, range_with_len, Mark, joined, marks_at, interleaved_at, interleaved, mark_further_on, map-further-0, map-further-suc}
use Rattle.ansi_search.proofs.SliceLemmas.{slice_range-from_past}

-- functions that agree one place apart
flat_map-range-suc : (f g : ℕ → List ℕ) → ((j : ℕ) → f (j + 1) ≡ g j) → (n i : ℕ) → flat_map f (range_with_len (i + 1) n) ≡ flat_map g (range_with_len i n)
flat_map-range-suc f g same zero i = refl
flat_map-range-suc f g same (suc n) i = ap₂ (λ u v. u ++ v) (same i) (flat_map-range-suc f g same n (i + 1))

-- functions that agree after 0
flat_map-range-1 : (f g : ℕ → List ℕ) → ((j : ℕ) → f (j + 1) ≡ g (j + 1)) → (n : ℕ) → flat_map f (range_with_len 1 n) ≡ flat_map g (range_with_len 1 n)
flat_map-range-1 f g same n =
    flat_map-range-suc f (λ j. g (j + 1)) same n 0 ∙ sym (flat_map-range-suc g (λ j. g (j + 1)) (λ j. refl) n 0)

flat_map-range-0 : (f : ℕ → List ℕ) (n : ℕ) → flat_map f (range_with_len 0 (n + 1)) ≡ f 0 ++ flat_map f (range_with_len 1 n)
flat_map-range-0 f n = (let one_more : n + 1 ≡ suc n = omega arith in ap (λ k. flat_map f (range_with_len 0 k)) one_more)

-- Marks one place further on.

joined-marks_at-0 : (ms : List Mark) → joined (marks_at 0 (map (mark_further_on 1) ms)) ≡ []
joined-marks_at-0 [] = refl
joined-marks_at-0 (m ∷ ms) = (let apart : (1 + m.place == 0) ≡ false = grind (arith, nat_tests) in rw apart (joined-marks_at-0 ms))

joined-marks_at-suc : (i : ℕ) (ms : List Mark) → joined (marks_at (i + 1) (map (mark_further_on 1) ms)) ≡ joined (marks_at i ms)
joined-marks_at-suc i [] = refl
joined-marks_at-suc i (m ∷ ms) = grind (arith, joined-marks_at-suc i ms)

-- One byte of text at the front.

interleaved-byte : (c : ℕ) (x : List ℕ) (a b : ℕ) (ms : List Mark)
    → interleaved (c ∷ x) a b (map (mark_further_on 1) ms) ≡ (if nat_le a 0 && nat_lt 0 b then c ∷ [] else []) ++ interleaved x (a - 1) (b - 1) ms
interleaved-byte c x a b ms =
    let f = interleaved_at (c ∷ x) a b (map (mark_further_on 1) ms) in
    let g = interleaved_at x (a - 1) (b - 1) ms in
    let first : f 0 ≡ (if nat_le a 0 && nat_lt 0 b then c ∷ [] else []) = ap (λ v. v ++ (if nat_le a 0 && nat_lt 0 b then c ∷ [] else [])) (joined-marks_at-0 ms) in
    let next : (j : ℕ) → f (j + 1) ≡ g j = λ j.
    let inside : (nat_le a (j + 1) && nat_lt (j + 1) b) ≡ (nat_le (a - 1) j && nat_lt j (b - 1)) = grind (arith, nat_tests) in
    let byte : slice_range (c ∷ x) (j + 1) (j + 1 + 1) ≡ slice_range x j (j + 1) = ap₂ (λ n y. take n y) (omega arith) (sym (drop_after c j x)) in
    ap₂ (λ u v. u ++ v) (joined-marks_at-suc j ms) (ap₂ (λ t v. if t then v else []) inside byte) in
    let size : length (c ∷ x) + 1 ≡ length x + 1 + 1 = omega arith in
    ap (λ n. flat_map f (range_with_len 0 n)) size ∙ flat_map-range-0 f (length x + 1) ∙ ap₂ (λ u v. u ++ v) first (flat_map-range-suc f g next (length x + 1) 0)
  where
    drop_after : (c j : ℕ) (x : List ℕ) → drop j x ≡ drop (j + 1) (c ∷ x)
    drop_after c j x = (let one_more : suc j ≡ j + 1 = omega arith in ap (λ n. drop n (c ∷ x)) one_more)

slice_range-cons : (a b c : ℕ) (w : List ℕ) → (if nat_le a 0 && nat_lt 0 b then c ∷ [] else []) ++ slice_range w (a - 1) (b - 1) ≡ slice_range (c ∷ w) a b
slice_range-cons zero zero c w = refl
slice_range-cons zero (suc b) c w =
    let here : (nat_le 0 0 && nat_lt 0 (suc b)) ≡ true = grind (arith, nat_tests) in
    let size : suc b - 1 - (0 - 1) ≡ b = omega arith in
    let from : 0 - 1 ≡ 0 = omega arith in
    let whole : suc b ≡ suc b - 0 = omega arith in
    ap (λ t. (if t then c ∷ [] else []) ++ slice_range w (0 - 1) (suc b - 1)) here
    ∙ ap₂ (λ n k. c ∷ take n (drop k w)) size from
    ∙ ap (λ n. take n (c ∷ w)) whole
slice_range-cons (suc a) b c w = grind arith

-- A text at the front, a mark at the front, and nothing.

pub interleaved-text : (w x : List ℕ) (a b : ℕ) (ms : List Mark) → interleaved (w ++ x) a b (map (mark_further_on (length w)) ms) ≡ slice_range w a b ++ interleaved x (a - length w) (b - length w) ms
interleaved-text [] x a b ms =
    ap (interleaved x a b) (map-further-0 ms) ∙ sym (ap₂ (λ u v. u ++ v) (slice_range-from_past [] a b (omega arith)) (ap₂ (λ i j. interleaved x i j ms) (omega arith) (omega arith)))
interleaved-text (c ∷ w) x a b ms =
    let n = length w in
    let head = if nat_le a 0 && nat_lt 0 b then c ∷ [] else [] in
    ap (interleaved (c ∷ w ++ x) a b) (map-further-suc n ms)
    ∙ interleaved-byte c (w ++ x) a b (map (mark_further_on n) ms)
    ∙ ap (λ v. head ++ v) (interleaved-text w x (a - 1) (b - 1) ms)
    ∙ sym (append_assoc head (slice_range w (a - 1) (b - 1)) (interleaved x (a - 1 - n) (b - 1 - n) ms))
    ∙ ap₂ (λ u v. u ++ v) (slice_range-cons a b c w) (ap₂ (λ i j. interleaved x i j ms) (omega arith) (omega arith))

pub interleaved-mark : (v x : List ℕ) (a b : ℕ) (ms : List Mark) → interleaved x a b (record { place = 0; bytes = v } ∷ ms) ≡ v ++ interleaved x a b ms
interleaved-mark v x a b ms = grind (arith, append_assoc, flat_map-range-0, flat_map-range-1)

pub interleaved-nil : (a b : ℕ) → interleaved [] a b [] ≡ []
interleaved-nil a b = grind arith

-- without marks, what is shown is a slice
pub interleaved-bare : (x : List ℕ) (a b : ℕ) → interleaved x a b [] ≡ slice_range x a b
interleaved-bare x a b =
    ap (λ y. interleaved y a b []) (sym (append-nil x)) ∙ interleaved-text x [] a b []
    ∙ ap (λ v. slice_range x a b ++ v) (interleaved-nil (a - length x) (b - length x)) ∙ append-nil (slice_range x a b)
