-- Slices of a list whose ends lie at its end or past it, and of two lists in a row.
use Rattle.ansi_search.proofs.Common.{◌≡◌, ℕ, zero, suc, ◌-◌, ◌≤◌, min, Bool, true, List, ◌∷◌, ◌++◌, map, length, take, drop, sym, ◌∙◌, ap, ap₂, arith, and_parts, list_all-append, take-nil, drop-nil, length-drop, length-take-le, drop_all, take_all, take-append-drop, take-map, drop-map, slice_range, list_all, []}

pub slice_range-none : {X : Type 0} (x : List X) (a b : ℕ) → b ≤ a → slice_range x a b ≡ []
slice_range-none x a b none = (let size : b - a ≡ 0 = omega arith in ap (λ n. take n (drop a x)) size)

pub slice_range-from_past : {X : Type 0} (x : List X) (a b : ℕ) → length x ≤ a → slice_range x a b ≡ []
slice_range-from_past x a b past = grind (arith, drop_all, take_all)

pub slice_range-past : {X : Type 0} (x : List X) (a b : ℕ) → length x ≤ b → slice_range x a b ≡ drop a x
slice_range-past x a b past = take_all (b - a) (drop a x) (omega (arith, length-drop a x))

pub length-slice_range : {X : Type 0} (x : List X) (a b : ℕ) → a ≤ b → b ≤ length x → length (slice_range x a b) ≡ b - a
length-slice_range x a b ordered within = length-take-le (b - a) (drop a x) (omega (arith, length-drop a x))

-- the ends may be brought to the end of the list
pub slice_range-min : {X : Type 0} (x : List X) (a b : ℕ) → slice_range x (min a (length x)) (min b (length x)) ≡ slice_range x a b
slice_range-min x a b = grind (arith, slice_range-from_past, slice_range-past)

-- what is left of a list after n of its elements, or after all
pub slice_range-rest : {X : Type 0} (x : List X) (n k : ℕ) → k ≡ min n (length x) → slice_range x k (length x) ≡ drop n x
slice_range-rest x n k is =
    let all : length x ≡ min (length x) (length x) = omega arith in
    ap₂ (slice_range x) is all ∙ slice_range-min x n (length x) ∙ slice_range-past x n (length x) (omega arith)

-- Two lists in a row.

pub take-append : {X : Type 0} (n : ℕ) (xs ys : List X) → take n (xs ++ ys) ≡ take n xs ++ take (n - length xs) ys
take-append n [] ys = (let all : n - 0 ≡ n = omega arith in ap₂ (λ u k. u ++ take k ys) (sym (take-nil n)) (sym all))
take-append zero (x ∷ xs) ys = (let none : 0 - length (x ∷ xs) ≡ 0 = omega arith in sym (ap (λ k. take k ys) none))
take-append (suc n) (x ∷ xs) ys =
    let left : suc n - length (x ∷ xs) ≡ n - length xs = omega arith in
    ap (λ v. x ∷ v) (take-append n xs ys) ∙ sym (ap (λ k. x ∷ (take n xs ++ take k ys)) left)

pub drop-append : {X : Type 0} (n : ℕ) (xs ys : List X) → drop n (xs ++ ys) ≡ drop n xs ++ drop (n - length xs) ys
drop-append n [] ys = (let all : n - 0 ≡ n = omega arith in ap₂ (λ u k. u ++ drop k ys) (sym (drop-nil n)) (sym all))
drop-append zero (x ∷ xs) ys = (let none : 0 - length (x ∷ xs) ≡ 0 = omega arith in sym (ap (λ k. x ∷ (xs ++ drop k ys)) none))
drop-append (suc n) (x ∷ xs) ys =
    let left : suc n - length (x ∷ xs) ≡ n - length xs = omega arith in
    drop-append n xs ys ∙ sym (ap (λ k. drop n xs ++ drop k ys) left)

pub slice_range-append : {X : Type 0} (xs ys : List X) (a b : ℕ) → slice_range (xs ++ ys) a b ≡ slice_range xs a b ++ slice_range ys (a - length xs) (b - length xs)
slice_range-append xs ys a b =
    let rest = drop (a - length xs) ys in
    let left : b - a - length (drop a xs) ≡ b - length xs - (a - length xs) = omega (arith, length-drop a xs) in
    ap (take (b - a)) (drop-append a xs ys) ∙ take-append (b - a) (drop a xs) rest ∙ ap (λ n. take (b - a) (drop a xs) ++ take n rest) left

pub slice_range-map : {X Y : Type 0} (f : X → Y) (xs : List X) (a b : ℕ) → slice_range (map f xs) a b ≡ map f (slice_range xs a b)
slice_range-map f xs a b = ap (take (b - a)) (drop-map f a xs) ∙ take-map f (b - a) (drop a xs)

-- if all pass a test, so do all of each part
pub list_all-parts : (test : ℕ → Bool) (n : ℕ) (x : List ℕ) → list_all test x ≡ true → (list_all test (take n x) ≡ true) × (list_all test (drop n x) ≡ true)
list_all-parts test n x all = and_parts _ _ (sym (list_all-append test (take n x) (drop n x)) ∙ ap (list_all test) (take-append-drop n x) ∙ all)
