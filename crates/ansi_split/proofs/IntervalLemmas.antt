-- Each part begins and ends at or after the end of the part before it.
use Rattle.ansi_split.proofs.Common.{◌≡◌, ℕ, zero, suc, ◌+◌, ◌≤◌, Bool, true, List, [], ◌∷◌, ◌++◌, map, length, filter, zip, Option, Some, None, option_map, refl, sym, subst, arith, slice_get, leb-true, cond_some, none-some, range_with_len, AllByRecursion, is_match, match_places, without_overlaps, parts, end_before}

-- the interval begins and ends at or after the end of the one before, if there is one
abbrev pub ComesAfter : Option ℕ → ℕ × ℕ → Type 0
ComesAfter None i = Unit {0}
ComesAfter (Some e) i = (e ≤ i.0) × (e ≤ i.1)

-- Matches that are taken rise, up to the end.

abbrev IsRising : ℕ → ℕ → List ℕ → Type 0
IsRising first last [] = first ≤ last
IsRising first last (m ∷ ms) = (first ≤ m) × IsRising m last ms

abbrev AreAtMost : ℕ → List ℕ → Type 0
AreAtMost last ms = AllByRecursion (λ m. m ≤ last) ms

without_overlaps_rises : (n first end last : ℕ) (ms : List ℕ) → first ≤ end → first ≤ last → AreAtMost last ms → IsRising first last (without_overlaps n end ms)
without_overlaps_rises n first end last [] before fits within = fits
without_overlaps_rises n first end last (m ∷ ms) before fits within = grind (arith, leb-true, without_overlaps_rises n m (m + n) last ms (omega arith) within.0 within.1, without_overlaps_rises n first end last ms before fits within.1)

range_at_most : (first n last : ℕ) → first + n ≤ last + 1 → AreAtMost last (range_with_len first n)
range_at_most first zero last fits = tt
range_at_most first (suc n) last fits = (omega arith, range_at_most (first + 1) n last (omega arith))

filter_at_most : (test : ℕ → Bool) (last : ℕ) (ms : List ℕ) → AreAtMost last ms → AreAtMost last (filter test ms)
filter_at_most test last [] within = tt
filter_at_most test last (m ∷ ms) within = grind (arith, filter_at_most test last ms within.1)

-- So each interval comes after the one before it.

-- each comes after the one before it, and the first after `before`
abbrev pub ComeAfter : Option ℕ → List (ℕ × ℕ) → Type 0
ComeAfter before [] = Unit {0}
ComeAfter before (i ∷ is) = ComesAfter before i × ComeAfter (Some i.1) is

intervals_come_after : (end n first last : ℕ) (taken : List ℕ) → end ≤ first → IsRising end last taken → ComeAfter (Some end) (zip (first ∷ map (λ m. m + n) taken) (taken ++ last ∷ []))
intervals_come_after end n first last [] before rising = ((before, rising), tt)
intervals_come_after end n first last (m ∷ ms) before rising = ((before, rising.0), intervals_come_after m n (m + n) last ms (omega arith) rising.1)

ComeAfter-none : (end : ℕ) (is : List (ℕ × ℕ)) → ComeAfter (Some end) is → ComeAfter None is
ComeAfter-none end [] after = tt
ComeAfter-none end (i ∷ is) after = (tt, after.1)

pub all_parts_come_after : (x p : List ℕ) → ComeAfter None (parts x p)
all_parts_come_after x p =
    let taken = without_overlaps (length p) 0 (match_places x p) in
    let places_fit = filter_at_most (is_match x p) (length x) (range_with_len 0 (length x + 1)) (range_at_most 0 (length x + 1) (length x) (omega arith)) in
    let rising = without_overlaps_rises (length p) 0 0 (length x) (match_places x p) (omega arith) (omega arith) places_fit in
    ComeAfter-none 0 (parts x p) (intervals_come_after 0 (length p) 0 (length x) taken (omega arith) rising)

-- where the interval before that of index k ends, if there is one, else `before`
abbrev pub end_before_index : Option ℕ → List (ℕ × ℕ) → ℕ → Option ℕ
end_before_index before is zero = before
end_before_index before is (suc k) = option_map (λ (i : ℕ × ℕ). i.1) (slice_get is k)

pub end_before_index-suc : (before : Option ℕ) (i : ℕ × ℕ) (is : List (ℕ × ℕ)) (k : ℕ) → end_before_index before (i ∷ is) (suc k) ≡ end_before_index (Some i.1) is k
end_before_index-suc before i is zero = refl
end_before_index-suc before i is (suc k) = refl

pub end_before_index-none : (is : List (ℕ × ℕ)) (k : ℕ) → end_before_index None is k ≡ end_before is k
end_before_index-none is zero = refl
end_before_index-none is (suc k) = refl

ComeAfter-slice_get : (before : Option ℕ) (is : List (ℕ × ℕ)) (k : ℕ) (i : ℕ × ℕ) → ComeAfter before is → slice_get is k ≡ Some i → ComesAfter (end_before_index before is k) i
ComeAfter-slice_get before [] k i after found = absurd (none-some i found)
ComeAfter-slice_get before (j ∷ is) zero i after found = subst (ComesAfter before) (cond_some true j i found).1 after.0
ComeAfter-slice_get before (j ∷ is) (suc k) i after found = subst (λ b. ComesAfter b i) (sym (end_before_index-suc before j is k)) (ComeAfter-slice_get (Some j.1) is k i after.1 found)

pub parts_come_after : (x p : List ℕ) (k : ℕ) (i : ℕ × ℕ) → slice_get (parts x p) k ≡ Some i → ComesAfter (end_before (parts x p) k) i
parts_come_after x p k i found =
    subst (λ b. ComesAfter b i) (end_before_index-none (parts x p) k) (ComeAfter-slice_get None (parts x p) k i (all_parts_come_after x p) found)
