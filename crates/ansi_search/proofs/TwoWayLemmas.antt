-- Where a long pattern is cut, and a search that goes forward by the cut.
use Rattle.ansi_search.proofs.Common.{◌≡◌, ℕ, ◌+◌, ◌-◌, ◌<◌, ◌≤◌, max, inl, inr, Bool, true, false, List, take, drop, length, nat_eq, sym, ◌∙◌, ap, arith, slice_index, cases_lt, true≢false, get_or-take, length-take-le, starts_with, IsPeriod, IsCutPlace, NoPeriodBelow-least, NoPeriodBelow-rest, OccursAt-split, IsCut, Precedes}
use Rattle.ansi_search.proofs.MatchLemmas.{starts_with-occurs, starts_with-from}

-- The two orders of bytes.

pub Precedes-rising : (r : Bool) (a b : ℕ) → r ≡ true → a < b → Precedes r a b
unfolding Precedes
Precedes-rising true a b is less = less
Precedes-rising false a b is less = absurd (true≢false (sym is))

pub Precedes-falling : (r : Bool) (a b : ℕ) → r ≡ false → b < a → Precedes r a b
unfolding Precedes
Precedes-falling true a b is less = absurd (true≢false is)
Precedes-falling false a b is less = less

pub Precedes-trans : (r : Bool) (a b c : ℕ) → Precedes r a b → Precedes r b c → Precedes r a c
unfolding Precedes
Precedes-trans true a b c first then = omega (arith, first, then)
Precedes-trans false a b c first then = omega (arith, first, then)

pub Precedes-irrefl : (r : Bool) (a : ℕ) → ¬ (Precedes r a a)
unfolding Precedes
Precedes-irrefl true a before = omega (arith, before)
Precedes-irrefl false a before = omega (arith, before)

pub Precedes-opposed : (a b : ℕ) → Precedes true a b → ¬ (Precedes false a b)
unfolding Precedes
Precedes-opposed a b before after = omega (arith, before, after)

-- The cut.

-- what is before the place occurs again one period later
front-repeats : (p : List ℕ) (c d : ℕ) → c + d ≤ length p → starts_with nat_eq (drop d p) (take c p) ≡ true → (k : ℕ) → k < c → slice_index p k ≡ slice_index p (k + d)
front-repeats p c d fits starts k inside =
    let size : length (take c p) ≡ c = length-take-le c p (omega (arith, fits)) in
    let place : k + d ≡ d + k = omega arith in
    sym (get_or-take c p k 0 inside) ∙ sym ((starts_with-occurs p (take c p) d (omega (arith, size, inside)) starts).reads k (omega (arith, size, inside))) ∙ ap (slice_index p) (sym place)

front-starts : (p : List ℕ) (c d : ℕ) → c + d ≤ length p → ((k : ℕ) → k < c → slice_index p k ≡ slice_index p (k + d)) → starts_with nat_eq (drop d p) (take c p) ≡ true
front-starts p c d fits same =
    let size : length (take c p) ≡ c = length-take-le c p (omega (arith, fits)) in
    starts_with-from (drop d p) (take c p) _ (OccursAt-split p (take c p) d (record {
      fits = omega (arith, size, fits);
      reads = λ k inside.
          let below : k < c = omega (arith, size, inside) in
          let place : d + k ≡ k + d = omega arith in
          ap (slice_index p) place ∙ sym (same k below) ∙ sym (get_or-take c p k 0 below);
    }))

-- the period of what follows the cut is one of all
pub cut-repeats : (p : List ℕ) (c d : ℕ) → IsCutPlace (slice_index p) (length p) c d → starts_with nat_eq (drop d p) (take c p) ≡ true → IsCut p (record { at = c; shift = d; repeats = true })
cut-repeats p c d place starts =
    let fits : c + d ≤ length p = place.fits in
    let period : IsPeriod (slice_index p) (length p) d = λ k inside. elim (cases_lt k c) [
      | inl before ↦ front-repeats p c d fits starts k before
      | inr past ↦ place.periodic k past inside
    ] in
    record {
      below = place.below;
      critical = place.critical;
      some = place.some;
      fits = omega (arith, fits);
      least = NoPeriodBelow-least (slice_index p) (length p) c d place.some place.critical place.periodic place.least;
      over = λ no. absurd (true≢false no);
      period = λ _. (place.above d place.some period, fits, period);
    }

-- it isn't: no period is less than the longer of both sides
pub cut-apart : (p : List ℕ) (c d shift : ℕ) → IsCutPlace (slice_index p) (length p) c d → shift ≡ max c (length p - c) → (c < length p - c → starts_with nat_eq (drop d p) (take c p) ≡ false)
    → IsCut p (record { at = c; shift = shift; repeats = false })
cut-apart p c d shift place is other =
    let below : c < length p = place.below in
    record {
      below = below;
      critical = place.critical;
      some = omega (arith, is, below);
      fits = omega (arith, is, below);
      least = λ e some short period. elim (cases_lt e (length p - c)) [
        | inl within ↦ elim (cases_lt c (length p - c)) [
          | inl wide ↦ NoPeriodBelow-rest (slice_index p) (length p) c d place.some place.critical place.periodic place.least
              (λ all. true≢false (sym (front-starts p c d place.fits (λ k inside. all k (let fits : c + d ≤ length p = place.fits in omega (arith, fits, inside)))) ∙ other wide)) e some within period
          | inr narrow ↦ omega (arith, within, narrow, place.above e some period)
        ]
        | inr past ↦ omega (arith, past, short, is, place.above e some period)
      ];
      over = λ _. omega (arith, is, below);
      period = λ yes. absurd (true≢false (sym yes));
    }
