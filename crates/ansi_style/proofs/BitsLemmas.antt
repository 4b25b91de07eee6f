-- The bits of a set of attributes after some are set or cleared, and whether it has one of some attributes.
use Rattle.ansi_style.proofs.Common.{◌≡◌, ◌∙◌, ℕ, zero, suc, ◌-◌, ◌^◌, ◌<◌, Bool, true, false, not, ◌&&◌, ◌||◌, ◌==◌, if◌then◌else◌, inl, inr, refl, ap, sym, arith, min, bit_and, bit_or, w32, nat_lt, Decides, bit_at, not-not, zero-mul, one-mul, eq-eqb, ne_eqb, ltb-true, cases_lt, same_from_decides, Decides-eqb, Decides-like, Decides-below_and, pow_pos, and_pow, bit_at_or, bit_at_and, bit_at-lt, bit_at_not, bit_at_above, bit_at-zero, same_from_bits, has, has_one}
use Rattle.std.proofs.lemmas.Nat.{and_le_r}

has-bit : (n k : ℕ) → has n k ≡ (bit_at n k == 1)
has-bit n k = grind (arith, and_pow, bit_at-lt, eq-eqb, ne_eqb, one-mul, pow_pos, zero-mul)

pub has-same_bit : (n m k : ℕ) → bit_at n k ≡ bit_at m k → has n k ≡ has m k
has-same_bit n m k same = has-bit n k ∙ ap (λ b. b == 1) same ∙ sym (has-bit m k)

-- so sets that both have it, or both don't, have the same bit there
pub same_bit : (n m k : ℕ) → has n k ≡ has m k → bit_at n k ≡ bit_at m k
same_bit n m k same = grind (arith, has-bit, bit_at-lt, eq-eqb, ne_eqb)

-- a property of every two bits holds of the bits at each place of two numbers
bit_at-cases : (P : ℕ → ℕ → Type 0) → P 0 0 → P 0 1 → P 1 0 → P 1 1 → (n m k : ℕ) → P (bit_at n k) (bit_at m k)
bit_at-cases P neither right left both n m k = grind arith

pub has-bit_or : (n m k : ℕ) → has (bit_or n m) k ≡ (has m k || has n k)
has-bit_or n m k = grind (arith, bit_at_or, bit_at-cases, has-bit)

pub has-without : (n m k : ℕ) → m < 2 ^ 32 → k < 32 → has (bit_and n (2 ^ 32 - 1 - m)) k ≡ (not (has m k) && has n k)
has-without n m k fits within =
    rw (has-bit (bit_and n (2 ^ 32 - 1 - m)) k, has-bit m k, has-bit n k, bit_at_and n (2 ^ 32 - 1 - m) k, bit_at_not w32 m k fits within)
    (bit_at-cases (λ a b. (min a (1 - b) == 1) ≡ (not (b == 1) && (a == 1))) refl refl refl refl n m k)

has-bit_and : (n m k : ℕ) → has (bit_and n m) k ≡ (has n k && has m k)
has-bit_and n m k = grind (arith, bit_at_and, bit_at-cases, has-bit)

-- of the others, only those that are in a third set change something

only_there-or : (there other own : Bool) → ((other && there) || own) ≡ (if there then other || own else own)
only_there-or false false own = refl
only_there-or false true own = refl
only_there-or true false own = refl
only_there-or true true own = refl

only_there-without : (there other own : Bool) → (not (other && there) && own) ≡ (if there then own && not other else own)
only_there-without false false own = refl
only_there-without false true own = refl
only_there-without true false false = refl
only_there-without true false true = refl
only_there-without true true false = refl
only_there-without true true true = refl

pub has-united : (n m there k : ℕ) → has (bit_or n (bit_and m there)) k ≡ (if has there k then has m k || has n k else has n k)
has-united n m there k =
    has-bit_or n (bit_and m there) k ∙ ap (λ b. b || has n k) (has-bit_and m there k) ∙ only_there-or (has there k) (has m k) (has n k)

pub has-without_those : (n m there k : ℕ) → there < 2 ^ 32 → k < 32 → has (bit_and n (2 ^ 32 - 1 - bit_and m there)) k ≡ (if has there k then has n k && not (has m k) else has n k)
has-without_those n m there k fits within =
    has-without n (bit_and m there) k (omega (arith, fits, and_le_r m there)) within
    ∙ ap (λ b. not b && has n k) (has-bit_and m there k) ∙ only_there-without (has there k) (has m k) (has n k)

-- Whether a set has one of some attributes, place by place.

-- a set has one of the others at one of the last w of 24 places
abbrev pub has_one_in_last : ℕ → ℕ → ℕ → Bool
has_one_in_last n m zero = false
has_one_in_last n m (suc w) = (has m (23 - w) && has n (23 - w)) || has_one_in_last n m w

no_bits : (n m : ℕ) → m < 2 ^ 24 → ((w : ℕ) → w < 24 → bit_at (bit_and n m) (23 - w) ≡ 0) → bit_and n m ≡ 0
no_bits n m below each = same_from_bits (bit_and n m) 0 (λ i. elim (cases_lt i 24) [
  | inl low ↦ (let back : 23 - (23 - i) ≡ i = omega arith in omega (arith, each (23 - i) (omega arith), ap (bit_at (bit_and n m)) back, bit_at-zero i))
  | inr high ↦ omega (arith, bit_at_and n m i, bit_at_above m 24 i below high, bit_at-zero i)
])

not_both-at_bit : (n m k : ℕ) (later : Bool) → not ((has m k && has n k) || later) ≡ ((bit_at (bit_and n m) k == 0) && not later)
not_both-at_bit n m k later = grind (arith, bit_at_and, bit_at-cases, has-bit)

pub has_one-places : (n m : ℕ) → nat_lt m (2 ^ 24) ≡ true → has_one n m ≡ has_one_in_last n m 24
has_one-places n m below =
    ap not (same_from_decides (bit_and n m == 0) (not (has_one_in_last n m 24)) (Decides-eqb (bit_and n m) 0)
    (Decides-like _ (no_bits n m (ltb-true m (2 ^ 24) below)) (λ none w _. ap (λ x. bit_at x (23 - w)) none ∙ bit_at-zero (23 - w)) none_in_last))
    ∙ not-not (has_one_in_last n m 24)
  where
    none_in_last : Decides (not (has_one_in_last n m 24)) ((w : ℕ) → w < 24 → bit_at (bit_and n m) (23 - w) ≡ 0)
    none_in_last =
        Decides-below_and (λ w. bit_at (bit_and n m) (23 - w) == 0) (λ w. bit_at (bit_and n m) (23 - w) ≡ 0) (λ w. not (has_one_in_last n m w))
        (λ w. Decides-eqb (bit_at (bit_and n m) (23 - w)) 0) refl (λ w. not_both-at_bit n m (23 - w) (has_one_in_last n m w)) 24
