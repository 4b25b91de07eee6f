-- Where a pattern occurs in a text, and its first match.
use Rattle.ansi_search.proofs.Common.{◌≡◌, ℕ, zero, suc, ◌+◌, ◌-◌, ◌<◌, ◌≤◌, max, inl, inr, Bool, true, false, ◌&&◌, ◌||◌, List, ◌∷◌, ◌++◌, take, drop, length, filter, nat_eq, nat_le, IsTrue, IsFalse, Option, Some, None, refl, sym, ◌∙◌, ap, ap₂, subst, arith, slice_get, slice_index, and_parts, and_from, cond_both, cases_lt, cases_eq, le-leb, leb-true, leb-false, true≢false, take-append-drop, take_at, drop-drop, take-append-le, get_or_append_left, get_or-drop, length-append, length-drop, drop-append-le, bytes_eq-Decides, IsCharBoundary-start, IsCharBoundary-from_rest, both_ways, range_with_len, starts_with, IsUtf8, IsCharBoundary, Nowhere, IsFirst, OccursAt, FindsNeedle, Passes, is_byte, OccursAt-split, OccursAt-from_part, ◌==◌, escape, has_escape, is_char_boundary, is_match, first_match_from, []}
use Rattle.ansi_search.proofs.PositionLemmas.{no_character_goes_on-past, is_char_boundary-from}

-- Whether a text begins with a pattern.

pub starts_with-from : (x p rest : List ℕ) → x ≡ p ++ rest → starts_with nat_eq x p ≡ true
starts_with-from x p rest is = (bytes_eq-Decides p (take (length p) x)).1 (sym (ap (take (length p)) is ∙ take_at p rest (length p) refl))

pub starts_with-splits : (x p : List ℕ) → starts_with nat_eq x p ≡ true → x ≡ p ++ drop (length p) x
starts_with-splits x p h = sym (take-append-drop (length p) x) ∙ ap (λ v. v ++ drop (length p) x) (sym ((bytes_eq-Decides p (take (length p) x)).0 h))

-- A pattern that is a text occurs only at character boundaries.

pub boundary_at : (x p rest : List ℕ) (i : ℕ) → IsUtf8 p → 0 < length p → drop i x ≡ p ++ rest → IsCharBoundary x i
boundary_at x p rest i utf8 some stands =
    let first : slice_index (drop i x) 0 ≡ slice_index p 0 = ap (λ u. slice_index u 0) stands ∙ get_or_append_left p rest 0 0 some in
    let starts = IsCharBoundary-start p utf8 in
    let fits : i ≤ length x = omega (arith, some, ap length stands, length-append p rest, length-drop i x) in
    let within : IsCharBoundary (drop i x) 0
    = (omega arith, λ lt high. (let high_p : 128 ≤ slice_index p 0 = omega (arith, high, first) in let lead : 192 ≤ slice_index p 0 = starts.1 some high_p in omega (arith, lead, first))) in
    let same : i + 0 ≡ i = omega arith in
    subst (IsCharBoundary x) same (IsCharBoundary-from_rest x i 0 fits within)

pub is_match-utf8 : (x p : List ℕ) (i : ℕ) → IsUtf8 p → 0 < length p → is_match x p i ≡ starts_with nat_eq (drop i x) p
is_match-utf8 x p i utf8 some =
    both_ways (is_match x p i) (starts_with nat_eq (drop i x) p)
    (λ h. (and_parts (is_char_boundary x i) (starts_with nat_eq (drop i x) p) h).1)
    (λ h. and_from _ _ (is_char_boundary-from x i (boundary_at x p _ i utf8 some (starts_with-splits (drop i x) p h))) h)

-- Where a text is passed over.

is_char_boundary-drop : (x : List ℕ) (k i : ℕ) → k ≤ length x → is_char_boundary x (k + i) ≡ is_char_boundary (drop k x) i
is_char_boundary-drop x k i within = grind (arith, get_or-drop, le-leb, leb-true, length-drop)

pub is_match-drop : (x p : List ℕ) (k i : ℕ) → k ≤ length x → is_match x p (k + i) ≡ is_match (drop k x) p i
is_match-drop x p k i within = ap₂ (λ s v. s && starts_with nat_eq v p) (is_char_boundary-drop x k i within) (sym (drop-drop i k x))

-- the same at a place in x
pub is_match-after : (x p y : List ℕ) (k j : ℕ) → k ≤ length x → drop k x ≡ y → k ≤ j → is_match x p j ≡ is_match y p (j - k)
is_match-after x p y k j within is past =
    let sum : j ≡ k + (j - k) = omega arith in
    ap (is_match x p) sum ∙ is_match-drop x p k (j - k) within ∙ ap (λ v. is_match v p (j - k)) is

-- The first match.

-- the pattern is at the place
abbrev pub IsMatch : List ℕ → List ℕ → ℕ → Type 0
IsMatch x p i = IsTrue (is_match x p i)

-- none before k + 1 but k, which is passed over
IsFirst-skip : (f : ℕ → Bool) (from n k : ℕ) (r : Option ℕ) → (IsTrue (f k) → k < from) → IsFirst (λ i. IsTrue (f i)) (max from (k + 1)) (k + 1 + n) r → IsFirst (λ i. IsTrue (f i)) (max from k) (k + suc n) r
IsFirst-skip f from n k None skips first = λ i low high passes. elim (cases_lt k i) [
  | inl past ↦ first i (omega (arith, low, past)) (omega (arith, high)) passes
  | inr here ↦ (let same : i ≡ k = omega (arith, low, here) in let below : k < from = skips (subst (λ j. IsTrue (f j)) same passes) in omega (arith, low, same, below))
]
IsFirst-skip f from n k (Some m) skips first =
    let found = first.0 in
    let low : max from (k + 1) ≤ m = found.low in
    let high : m < k + 1 + n = found.high in (
      record {
        low = omega (arith, low);
        high = omega (arith, high);
        before = λ i from_here to passes. elim (cases_lt k i) [
          | inl past ↦ found.before i (omega (arith, from_here, past)) to passes
          | inr here ↦ (let same : i ≡ k = omega (arith, from_here, here) in let below : k < from = skips (subst (λ j. IsTrue (f j)) same passes) in omega (arith, from_here, same, below))
        ];
      },
      first.1,
    )

kept_first : (f : ℕ → Bool) (from n k : ℕ) → IsFirst (λ i. IsTrue (f i)) (max from k) (k + n) (slice_get (filter (nat_le from) (filter f (range_with_len k n))) 0)
kept_first f from zero k = λ i low high passes. omega (arith, low, high)
kept_first f from (suc n) k =
    let P : Option ℕ → Type 0 = λ r. IsFirst (λ i. IsTrue (f i)) (max from k) (k + suc n) r in
    let later = filter f (range_with_len (k + 1) n) in
    cond_both (f k) (k ∷ later) later (λ ks. P (slice_get (filter (nat_le from) ks) 0))
    (λ passes.
    cond_both (nat_le from k) (k ∷ filter (nat_le from) later) (filter (nat_le from) later) (λ ks. P (slice_get ks 0))
    (λ below.
    let at : from ≤ k = leb-true from k below in
    (record { low = omega (arith, at); high = omega arith; before = λ i low high _. omega (arith, low, high) }, passes))
    (λ above. IsFirst-skip f from n k _ (λ _. leb-false from k above) (kept_first f from n (k + 1))))
    (λ fails. IsFirst-skip f from n k _ (λ passes. absurd (true≢false (sym passes ∙ fails))) (kept_first f from n (k + 1)))

pub first_match_from-first : (x p : List ℕ) (from : ℕ) → IsFirst (IsMatch x p) from (length x + 1) (first_match_from x p from)
first_match_from-first x p from =
    let r = first_match_from x p from in
    let same : max from 0 ≡ from = omega arith in
    let count : 0 + (length x + 1) ≡ length x + 1 = omega arith in
    subst (λ k. IsFirst (IsMatch x p) k (length x + 1) r) same (subst (λ n. IsFirst (IsMatch x p) (max from 0) n r) count (kept_first (is_match x p) from (length x + 1) 0))

-- there is one first place at most
first-unique : (P : ℕ → Type 0) (i j : ℕ) (r s : Option ℕ) → IsFirst P i j r → IsFirst P i j s → r ≡ s
first-unique P i j None None none also = refl
first-unique P i j None (Some m) none first = (let found = first.0 in absurd (none m found.low found.high first.1))
first-unique P i j (Some k) None first none = (let found = first.0 in absurd (none k found.low found.high first.1))
first-unique P i j (Some k) (Some m) first other =
    let here = first.0 in
    let there = other.0 in
    elim (cases_eq k m) [
      | inl same ↦ ap (λ n. Some n) same
      | inr apart ↦ elim (cases_lt k m) [
        | inl before ↦ absurd (there.before k here.low before first.1)
        | inr past ↦ absurd (here.before m there.low (omega (arith, past, apart)) other.1)
      ]
    ]

pub first_match_from-is : (x p : List ℕ) (from : ℕ) (r : Option ℕ) → IsFirst (IsMatch x p) from (length x + 1) r → r ≡ first_match_from x p from
first_match_from-is x p from r first = first-unique (IsMatch x p) from (length x + 1) r _ first (first_match_from-first x p from)

-- Past a place before which there is no match, and from which the text x goes on as v.

pub no_match_in : (x p v : List ℕ) (from place n : ℕ) → place ≤ length x → drop place x ≡ v → Nowhere (IsMatch x p) from place → Nowhere (IsMatch v p) (from - place) n
    → Nowhere (IsMatch x p) from (place + n)
no_match_in x p v from place n within is before later = λ k low high found. elim (cases_lt k place) [
  | inl front ↦ before k low front found
  | inr after ↦ later (k - place) (omega (arith, low)) (omega (arith, high, after)) (sym (is_match-after x p v place k within is after) ∙ found)
]

pub first_match_in : (x p v : List ℕ) (from place n start : ℕ) → place ≤ length x → drop place x ≡ v → n ≤ length v → Nowhere (IsMatch x p) from place
    → IsFirst (IsMatch v p) (from - place) n (Some start) → Some (place + start) ≡ first_match_from x p from
first_match_in x p v from place n start within is inside before first =
    let found = first.0 in
    let low : from - place ≤ start = found.low in
    let high : start < n = found.high in
    let left : length v ≡ length x - place = ap length (sym is) ∙ length-drop place x in
    first_match_from-is x p from (Some (place + start)) (
      record {
        low = omega (arith, low);
        high = omega (arith, high, inside, left, within);
        before = no_match_in x p v from place start within is before found.before;
      },
      is_match-drop x p place start within ∙ ap (λ u. is_match u p start) is ∙ first.1,
    )

-- only the empty pattern is at the end of x

pub empty_at_end : (x p : List ℕ) (from place : ℕ) → place ≡ length x → length p ≡ 0 → from ≤ place → Nowhere (IsMatch x p) from place → Some place ≡ first_match_from x p from
empty_at_end x (b ∷ p) from place end none below before = absurd (omega (arith, none))
empty_at_end x [] from place end none below before =
    first_match_from-is x [] from (Some place) (
      record { low = below; high = omega (arith, end); before = before },
      and_from _ _ (and_from _ _ (le-leb place (length x) (omega (arith, end))) (no_character_goes_on-past x place (omega (arith, end)))) refl,
    )

pub none_at_end : (x p : List ℕ) (from place : ℕ) → place ≡ length x → (length p ≡ 0 → place < from) → Nowhere (IsMatch x p) from place → None ≡ first_match_from x p from
none_at_end x p from place end passed before = first_match_from-is x p from None (λ k low high found. elim (cases_lt k place) [
  | inl front ↦ before k low front found
  | inr after ↦ at_end p passed k low (omega (arith, high, after, end)) found
])
  where
    at_end : (q : List ℕ) → (length q ≡ 0 → place < from) → (k : ℕ) → from ≤ k → k ≡ place → ¬ (IsMatch x q k)
    at_end [] passed k low here found = (let above : place < from = passed refl in omega (arith, above, low, here))
    at_end (b ∷ q) passed k low here found =
        let stands : drop k x ≡ (b ∷ q) ++ drop (length (b ∷ q)) (drop k x) = starts_with-splits (drop k x) (b ∷ q) (and_parts (is_char_boundary x k) (starts_with nat_eq (drop k x) (b ∷ q)) found).1 in
        omega (arith, here, end, ap length stands, length-append (b ∷ q) (drop (length (b ∷ q)) (drop k x)), length-drop k x)

-- A text from a position on, searched for what isn't empty: a match is one that a search of the bytes finds.

pub match-from : (x p : List ℕ) (from i : ℕ) → IsUtf8 p → 0 < length p → from ≤ i → is_match x p i ≡ starts_with nat_eq (drop (i - from) (drop from x)) p
match-from x p from i utf8 some low = grind (arith, drop-drop, is_match-utf8)

pub starts_with-occurs : (x p : List ℕ) (s : ℕ) → 0 < length p → starts_with nat_eq (drop s x) p ≡ true → OccursAt x p s
starts_with-occurs x p s some starts =
    let splits : drop s x ≡ p ++ drop (length p) (drop s x) = starts_with-splits (drop s x) p starts in
    let fits : s + length p ≤ length x = omega (arith, some, ap length splits, length-append p (drop (length p) (drop s x)), length-drop s x) in
    OccursAt-from_part x p s fits (sym ((bytes_eq-Decides p (take (length p) (drop s x))).0 starts))

-- The first match in a run.

-- a match ends in the text
pub match_fits : (x p : List ℕ) (i : ℕ) → 0 < length p → IsMatch x p i → i + length p ≤ length x
match_fits x p i some found =
    (starts_with-occurs x p i some (and_parts (is_char_boundary x i) (starts_with nat_eq (drop i x) p) found).1).fits

pub no_match-short : (x p : List ℕ) (from n : ℕ) → 0 < length p → length x < from + length p → Nowhere (IsMatch x p) from n
no_match-short x p from n some short k low high found = omega (arith, low, short, match_fits x p k some found)

-- a pattern that is longer than the text
pub none-longer : (x p : List ℕ) (from : ℕ) → length x < length p → None ≡ first_match_from x p from
none-longer x p from longer = first_match_from-is x p from None (no_match-short x p from (length x + 1) (omega (arith, longer)) (omega (arith, longer)))

no_match : (w p : List ℕ) (from k : ℕ) → IsUtf8 p → 0 < length p → from ≤ k → ¬ (OccursAt (drop from w) p (k - from)) → ¬ (IsMatch w p k)
no_match w p from k utf8 some low none found = none (starts_with-occurs (drop from w) p (k - from) some (sym (match-from w p from k utf8 some low) ∙ found))

-- a search of the run's bytes from `from` on finds it
pub found_inside : (w p : List ℕ) (from s : ℕ) → IsUtf8 p → 0 < length p → from ≤ length w → FindsNeedle (drop from w) p 0 (Some s) → IsFirst (IsMatch w p) from (length w) (Some (from + s))
found_inside w p from s utf8 some inside finds =
    let found = finds.0 in
    let fits : s + length p ≤ length (drop from w) = finds.1.fits in
    let same : from + s - from ≡ s = omega arith in
    let len : length (drop from w) ≡ length w - from = length-drop from w in (
      record {
        low = omega arith;
        high = omega (arith, fits, len, some);
        before = λ k low high. no_match w p from k utf8 some low (found.before (k - from) (omega arith) (omega (arith, low, high)));
      },
      match-from w p from (from + s) utf8 some (omega arith)
          ∙ ap (λ n. starts_with nat_eq (drop n (drop from w)) p) same ∙ starts_with-from (drop s (drop from w)) p _ (OccursAt-split (drop from w) p s finds.1),
    )

pub none_inside : (w p : List ℕ) (from : ℕ) → IsUtf8 p → 0 < length p → from ≤ length w → FindsNeedle (drop from w) p 0 None → Nowhere (IsMatch w p) from (length w)
none_inside w p from utf8 some inside finds k low high =
    let len : length (drop from w) ≡ length w - from = length-drop from w in
    no_match w p from k utf8 some low (finds (k - from) (omega arith) (omega (arith, len, low, high)))

-- Where a run goes on.

-- a match in the run is one in all
pub is_match-front : (w y p : List ℕ) (i : ℕ) → i < length w → i + length p ≤ length w → is_match (w ++ y) p i ≡ is_match w p i
is_match-front w y p i inside fits = grind (arith, drop-append-le, get_or_append_left, le-leb, length-append, length-drop, take-append-le)

-- the first that begins and ends in the run is the first of all
pub first_in_front : (w y p : List ℕ) (from s : ℕ) → s + length p ≤ length w → IsFirst (IsMatch w p) from (length w) (Some s) → IsFirst (IsMatch (w ++ y) p) from (length w) (Some s)
first_in_front w y p from s fits first = grind (arith, is_match-front)

-- the empty pattern
pub first_empty : (w y : List ℕ) (from : ℕ) (r : Option ℕ) → IsFirst (IsMatch w []) from (length w) r → IsFirst (IsMatch (w ++ y) []) from (length w) r
first_empty w y from None none = λ k low high match. none k low high (sym (is_match-front w y [] k high (omega (arith, high))) ∙ match)
first_empty w y from (Some s) first = (let found = first.0 in let high : s < length w = found.high in first_in_front w y [] from s (omega (arith, high)) first)

-- of a run that is all of the text
pub first_of_all : (w p : List ℕ) (from : ℕ) (r : Option ℕ) → 0 < length p → IsFirst (IsMatch w p) from (length w) r → r ≡ first_match_from w p from
first_of_all w p from None some none = none_at_end w p from (length w) refl (λ empty. absurd (omega (arith, some, empty))) none
first_of_all w p from (Some s) some first =
    let found = first.0 in
    let high : s < length w = found.high in
    first_match_from-is w p from (Some s) (record { low = found.low; high = omega (arith, high); before = found.before }, first.1)

-- no ESC is found, so there is none
pub no_escape-found : (t : List ℕ) → Nowhere (Passes (is_byte escape) t) 0 (length t) → IsFalse (has_escape t)
no_escape-found [] none = refl
no_escape-found (b ∷ t) none = ap₂ (λ u v. u || v) (not_true (b == escape) (none 0 (omega arith) (omega arith))) (no_escape-found t (λ k low high passes. none (suc k) (omega arith) (omega (arith, high)) passes))
  where
    not_true : (c : Bool) → ¬ (c ≡ true) → c ≡ false
    not_true true not = absurd (not refl)
    not_true false not = refl
