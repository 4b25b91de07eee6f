-- The parts of a text in std's words: what its `split` returns, and the intervals between the first matches.
use Rattle.std.specs.Prelude.{◌≡◌, ℕ, ◌+◌, ◌<◌, ◌≤◌, Bool, true, false, List, [], ◌∷◌, length, map, slice_range}
use Rattle.std.specs.Str.{IsCharBoundary}
use Rattle.std.specs.Str.Pattern.{FindsText, LacksTextAt, HasTextAt, IsSplitAtFirstMatch}

-- if a match was found, what is after it is split too; else no text follows
abbrev pub GoesOn : Bool → Type 0 → List (List ℕ) → Type 0
GoesOn true AfterMatch ys = AfterMatch
GoesOn false AfterMatch ys = ys ≡ []

-- std's `split` of x at a pattern p that isn't empty returns these texts, one after the other: each is what is left of x up to the first match, or all that is left
abbrev pub AreSplit : List ℕ → List ℕ → List (List ℕ) → Type 0
AreSplit p x [] = ⊥
AreSplit p x (y ∷ ys) = (found : Bool) × (rest : List ℕ) × IsSplitAtFirstMatch (FindsText p) x y found rest × GoesOn found (AreSplit p rest ys) ys

-- The intervals of x before, between and after the first matches of p, from the place e on: each begins where a match ends, has no match, and ends where the next begins; the last ends with x.
abbrev pub AreBetween : List ℕ → List ℕ → ℕ → List (ℕ × ℕ) → Type 0
AreBetween x p e [] = ⊥
AreBetween x p e (i ∷ []) = (i.0 ≡ e) × (i.1 ≡ length x) × (e ≤ i.1) × ((k : ℕ) → e ≤ k → k ≤ length x → LacksTextAt p x k)
AreBetween x p e (i ∷ j ∷ is) = (i.0 ≡ e) × (e ≤ i.1) × HasTextAt p x i.1 (i.1 + length p) × ((k : ℕ) → e ≤ k → k < i.1 → LacksTextAt p x k)
    × AreBetween x p (i.1 + length p) (j ∷ is)

-- the intervals are in x from one of std's character boundaries to another, one after the other, from the place e on
abbrev pub AreInTurn : List ℕ → ℕ → List (ℕ × ℕ) → Type 0
AreInTurn x e [] = Unit {0}
AreInTurn x e (i ∷ is) = (e ≤ i.0) × (i.0 ≤ i.1) × IsCharBoundary x i.0 × IsCharBoundary x i.1 × AreInTurn x i.1 is

-- the slices of x over the intervals
abbrev pub slices_over : List ℕ → List (ℕ × ℕ) → List (List ℕ)
slices_over x is = map (λ (i : ℕ × ℕ). slice_range x i.0 i.1) is
