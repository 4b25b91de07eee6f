-- The matches of a pattern after one of them, and the intervals between them.
use Rattle.ansi_split.proofs.Common.{◌≡◌, ℕ, zero, suc, ◌+◌, ◌<◌, ◌≤◌, max, inl, inr, Bool, true, false, List, [], ◌∷◌, ◌++◌, length, map, filter, zip, drop, Some, None, refl, sym, ◌∙◌, ap, subst, arith, if◌then◌else◌, nat_le, slice_get, cases_lt, le-leb, lt-leb, none-some, same_Some, length-drop, range_with_len, is_match, match_places, first_match_from, without_overlaps, is_match-drop}

-- The matches after the first m bytes are those of the text.

matches-drop : (x p : List ℕ) (m i n : ℕ) → m ≤ length x → filter (is_match x p) (range_with_len (m + i) n) ≡ map (λ k. m + k) (filter (is_match (drop m x) p) (range_with_len i n))
matches-drop x p m i zero within = refl
matches-drop x p m i (suc n) within = grind (arith, is_match-drop, matches-drop x p m (i + 1) n within)

-- Which matches are taken.

without_overlaps-taken : (n e m : ℕ) (ms : List ℕ) → e ≤ m → without_overlaps n e (m ∷ ms) ≡ m ∷ without_overlaps n (m + n) ms
without_overlaps-taken n e m ms from = ap (λ b. if b then m ∷ without_overlaps n (if b then m + n else e) ms else without_overlaps n (if b then m + n else e) ms) (le-leb e m from)

without_overlaps-passed : (n e m : ℕ) (ms : List ℕ) → m < e → without_overlaps n e (m ∷ ms) ≡ without_overlaps n e ms
without_overlaps-passed n e m ms before = ap (λ b. if b then m ∷ without_overlaps n (if b then m + n else e) ms else without_overlaps n (if b then m + n else e) ms) (lt-leb e m before)

-- those before the end don't count
without_overlaps-before : (q : ℕ → Bool) (n e i k j : ℕ) → i + k ≤ e → without_overlaps n e (filter q (range_with_len i (k + j))) ≡ without_overlaps n e (filter q (range_with_len (i + k) j))
without_overlaps-before q n e i zero j before = grind arith
without_overlaps-before q n e i (suc k) j before =
    let here : i + 1 + k ≡ i + suc k = omega arith in
    let size : suc k + j ≡ suc (k + j) = omega arith in
    ap (λ a. without_overlaps n e (filter q (range_with_len i a))) size
    ∙ either (q i) (filter q (range_with_len (i + 1) (k + j)))
    ∙ without_overlaps-before q n e (i + 1) k j (omega arith) ∙ ap (λ a. without_overlaps n e (filter q (range_with_len a j))) here
  where
    either : (b : Bool) (ms : List ℕ) → without_overlaps n e (if b then i ∷ ms else ms) ≡ without_overlaps n e ms
    either true ms = without_overlaps-passed n e i ms (omega arith)
    either false ms = refl

-- ends that no match lies between count alike
without_overlaps-alike : (q : ℕ → Bool) (n d e i k : ℕ) → d ≤ i → e ≤ i → without_overlaps n d (filter q (range_with_len i k)) ≡ without_overlaps n e (filter q (range_with_len i k))
without_overlaps-alike q n d e i zero d_before e_before = refl
without_overlaps-alike q n d e i (suc k) d_before e_before = grind (arith, without_overlaps-taken, without_overlaps-alike q n d e (i + 1) k (omega arith) (omega arith))

without_overlaps-further : (n e m : ℕ) (ms : List ℕ) → without_overlaps n (m + e) (map (λ k. m + k) ms) ≡ map (λ k. m + k) (without_overlaps n e ms)
without_overlaps-further n e m [] = refl
without_overlaps-further n e m (k ∷ ms) = elim (cases_lt k e) [
  | inl before ↦
      without_overlaps-passed n (m + e) (m + k) (map (λ k. m + k) ms) (omega arith) ∙ without_overlaps-further n e m ms
      ∙ ap (map (λ k. m + k)) (sym (without_overlaps-passed n e k ms before))
  | inr from ↦ (
      let end : m + k + n ≡ m + (k + n) = omega arith in
      without_overlaps-taken n (m + e) (m + k) (map (λ k. m + k) ms) (omega arith)
      ∙ ap (λ ks. (m + k) ∷ ks) (ap (λ a. without_overlaps n a (map (λ k. m + k) ms)) end ∙ without_overlaps-further n (k + n) m ms)
      ∙ ap (map (λ k. m + k)) (sym (without_overlaps-taken n e k ms from)))
]

-- The first match that is taken, and those after it.

pub without_overlaps-none : (n from : ℕ) (ms : List ℕ) → slice_get (filter (nat_le from) ms) 0 ≡ None → without_overlaps n from ms ≡ []
without_overlaps-none n from [] none = refl
without_overlaps-none n from (m ∷ ms) none = elim (cases_lt m from) [
  | inl before ↦
      without_overlaps-passed n from m ms before
      ∙ without_overlaps-none n from ms (subst (λ b. slice_get (if b then m ∷ filter (nat_le from) ms else filter (nat_le from) ms) 0 ≡ None) (lt-leb from m before) none)
  | inr at ↦ absurd (none-some m (sym (subst (λ b. slice_get (if b then m ∷ filter (nat_le from) ms else filter (nat_le from) ms) 0 ≡ None) (le-leb from m at) none)))
]

-- the least number of a range that passes a test, at or past `from`
pub record IsTaken (q : ℕ → Bool) (n from i k m : ℕ) : Type 0 where
  pub taken : without_overlaps n from (filter q (range_with_len i k)) ≡ m ∷ without_overlaps n (m + max n 1) (filter q (range_with_len i k))
  pub at : from ≤ m
  pub fits : m < i + k
  pub passes : q m ≡ true

-- a number in front of others, if it passes
abbrev in_front : ℕ → List ℕ → Bool → List ℕ
in_front i ks b = if b then i ∷ ks else ks

-- the first is not taken
IsTaken-later : (q : ℕ → Bool) (n from i k m : ℕ) (b : Bool) → q i ≡ b → (b ≡ true → i < from) → IsTaken q n from (i + 1) k m → IsTaken q n from i (suc k) m
IsTaken-later q n from i k m b is before later = grind (arith, without_overlaps-passed)

-- the first is taken
IsTaken-here : (q : ℕ → Bool) (n from i k : ℕ) → q i ≡ true → from ≤ i → IsTaken q n from i (suc k) i
IsTaken-here q n from i k is at =
    let ks = filter q (range_with_len (i + 1) k) in
    record {
      taken =
          ap (λ b. without_overlaps n from (in_front i ks b)) is ∙ without_overlaps-taken n from i ks at
          ∙ ap (λ ks. i ∷ ks) (alike (filter q (range_with_len (i + 1) k)) refl)
          ∙ ap (λ ks. i ∷ ks) (sym (ap (λ b. without_overlaps n (i + max n 1) (in_front i ks b)) is ∙ without_overlaps-passed n (i + max n 1) i ks (omega arith)));
      at = at;
      fits = omega arith;
      passes = is;
    }
  where
    alike : (ks : List ℕ) → ks ≡ filter q (range_with_len (i + 1) k) → without_overlaps n (i + n) ks ≡ without_overlaps n (i + max n 1) ks
    alike ks are = elim (cases_lt 0 n) [
      | inl some ↦ (let same : i + n ≡ i + max n 1 = omega arith in ap (λ e. without_overlaps n e ks) same)
      | inr none ↦ subst (λ v. without_overlaps n (i + n) v ≡ without_overlaps n (i + max n 1) v) (sym are) (without_overlaps-alike q n (i + n) (i + max n 1) (i + 1) k (omega arith) (omega arith))
    ]

is_taken : (q : ℕ → Bool) (n from i k m : ℕ) → slice_get (filter (nat_le from) (filter q (range_with_len i k))) 0 ≡ Some m → IsTaken q n from i k m
is_taken q n from i zero m found = absurd (none-some m found)
is_taken q n from i (suc k) m found = grind (arith, le-leb, lt-leb, same_Some, IsTaken-here, IsTaken-later, is_taken q n from (i + 1) k m)

-- The first match of a text at or past `from`, and those after it, which are those of what follows its first byte.
pub record IsFirstTaken (x p : List ℕ) (from m : ℕ) : Type 0 where
  pub taken : without_overlaps (length p) from (match_places x p) ≡ m ∷ map (λ k. m + k) (without_overlaps (length p) (max (length p) 1) (match_places (drop m x) p))
  pub at : from ≤ m
  pub inside : m ≤ length x
  pub matches : is_match x p m ≡ true

pub is_first_taken : (x p : List ℕ) (from m : ℕ) → first_match_from x p from ≡ Some m → IsFirstTaken x p from m
is_first_taken x p from m found =
    let n = length p in
    let first = is_taken (is_match x p) n from 0 (length x + 1) m found in
    let inside : m ≤ length x = omega (arith, first.fits) in
    let size : length x + 1 ≡ m + (length (drop m x) + 1) = omega (arith, length-drop m x) in
    let from_zero : 0 + m ≡ m + 0 = omega arith in
    record {
      taken =
          first.taken ∙ ap (λ ks. m ∷ ks) (
          ap (λ k. without_overlaps n (m + max n 1) (filter (is_match x p) (range_with_len 0 k))) size
          ∙ without_overlaps-before (is_match x p) n (m + max n 1) 0 m (length (drop m x) + 1) (omega arith)
          ∙ ap (λ a. without_overlaps n (m + max n 1) (filter (is_match x p) (range_with_len a (length (drop m x) + 1)))) from_zero
          ∙ ap (without_overlaps n (m + max n 1)) (matches-drop x p m 0 (length (drop m x) + 1) inside)
          ∙ without_overlaps-further n (max n 1) m (match_places (drop m x) p));
      at = first.at;
      inside = inside;
      matches = first.passes;
    }

-- If all matches are m further on, so are the intervals between them.

abbrev pub moved_on : ℕ → ℕ × ℕ → ℕ × ℕ
moved_on m i = (m + i.0, m + i.1)

-- the intervals before, between and after the places that are taken, from a on, of a text of the length e
abbrev pub intervals_between : ℕ → ℕ → ℕ → List ℕ → List (ℕ × ℕ)
intervals_between n a e taken = zip (a ∷ map (λ m. m + n) taken) (taken ++ e ∷ [])

pub intervals_between-further : (n a e m : ℕ) (taken : List ℕ) → intervals_between n (m + a) (m + e) (map (λ k. m + k) taken) ≡ map (moved_on m) (intervals_between n a e taken)
intervals_between-further n a e m [] = refl
intervals_between-further n a e m (k ∷ taken) = grind (arith, intervals_between-further n (k + n) e m taken)
