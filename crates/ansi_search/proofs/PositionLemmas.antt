-- Good positions, in a text at the front and after it, and as std's character boundaries.
use Rattle.std.proofs.lemmas.Bool.{ne_eqb, or_cases}
use Rattle.std.proofs.Math.Bool.{or-true}
use Rattle.ansi_search.proofs.Common.{◌⊎◌, ◌||◌, ◌==◌, ◌≡◌, ℕ, zero, suc, ◌-◌, ◌<◌, ◌≤◌, inl, inr, not, true, false, List, ◌++◌, length, drop, IsTrue, Some, None, Option, ◌&&◌, refl, sym, ◌∙◌, ap, ap₂, subst, arith, ◌+◌, ◌↔◌, Bool, min, nat_le, eqb-true, leb-true, leb-false, le-leb, and_parts, and_from, lt-leb, cases_lt, not-true, not_from_false, and_left, and_right, and_cases, get_or_append_left, get_or_past, get_or-append_right, get_or-drop, get_or-take, length-take, take, length-drop, both_ways, IsCharBoundary-start, IsCharBoundary-end, unwrap_or, IsUtf8, IsCharBoundary, plain, length-plain, is_continuation_byte, no_character_goes_on, is_good_position, is_char_boundary, is_good_range, is_position_in, is_range_in}

pub no_character_goes_on-past : (x : List ℕ) (n : ℕ) → length x ≤ n → no_character_goes_on x n ≡ true
no_character_goes_on-past x n past = ap (λ b. not (is_continuation_byte b)) (get_or_past x n 0 past)

pub no_character_goes_on-append : (w y : List ℕ) (n : ℕ) → n < length w → no_character_goes_on (w ++ y) n ≡ no_character_goes_on w n
no_character_goes_on-append w y n within = ap (λ b. not (is_continuation_byte b)) (get_or_append_left w y 0 n within)

pub no_character_goes_on-after : (w y : List ℕ) (n : ℕ) → length w ≤ n → no_character_goes_on (w ++ y) n ≡ no_character_goes_on y (n - length w)
no_character_goes_on-after w y n past = ap (λ b. not (is_continuation_byte b)) (get_or-append_right w y (length w) n 0 refl past)

-- a position in what is left of a text
pub no_character_goes_on-drop : (x : List ℕ) (k n : ℕ) → no_character_goes_on (drop k x) n ≡ no_character_goes_on x (k + n)
no_character_goes_on-drop x k n = ap (λ b. not (is_continuation_byte b)) (get_or-drop k x n 0)

-- Within a text, the good positions are std's boundaries.

pub good_is_boundary : (x : List ℕ) (n : ℕ) → n ≤ length x → IsTrue (no_character_goes_on x n) → IsCharBoundary x n
good_is_boundary x n within good = grind (arith, and_cases, leb-false, not-true)

pub no_character_goes_on-boundary : (x : List ℕ) (n : ℕ) → IsCharBoundary x n → IsTrue (no_character_goes_on x n)
no_character_goes_on-boundary x n boundary = grind (arith, and_left, and_right, no_character_goes_on-past, lt-leb, not_from_false)

-- a position at which no character goes on is good, and a text that is UTF-8 has no other good positions

pub is_good_position-from : (x : List ℕ) (n : ℕ) → IsTrue (no_character_goes_on x n) → IsTrue (is_good_position x n)
is_good_position-from x n none = ap (λ b. n == 0 || b) none ∙ or-true (n == 0)

pub is_good_position-utf8 : (x : List ℕ) (n : ℕ) → IsUtf8 x → is_good_position x n ≡ no_character_goes_on x n
is_good_position-utf8 x zero utf8 = sym (no_character_goes_on-boundary x 0 (IsCharBoundary-start x utf8))
is_good_position-utf8 x (suc n) utf8 = ap (λ b. b || no_character_goes_on x (suc n)) (ne_eqb (suc n) 0 (λ same. omega (arith, same)))

pub boundary_is_good : (x : List ℕ) (n : ℕ) → IsCharBoundary x n → IsTrue (is_good_position x n)
boundary_is_good x n boundary = is_good_position-from x n (no_character_goes_on-boundary x n boundary)

pub is_good_position-past : (x : List ℕ) (n : ℕ) → length x ≤ n → is_good_position x n ≡ true
is_good_position-past x n past = is_good_position-from x n (no_character_goes_on-past x n past)

pub boundary_inside : (x : List ℕ) (n : ℕ) → IsTrue (no_character_goes_on x n) → IsCharBoundary x (min n (length x))
boundary_inside x n good = elim (cases_lt n (length x)) [
  | inl within ↦ (let here : n ≡ min n (length x) = omega arith in subst (IsCharBoundary x) here (good_is_boundary x n (omega arith) good))
  | inr past ↦ (let end : length x ≡ min n (length x) = omega arith in subst (IsCharBoundary x) end (IsCharBoundary-end x))
]

pub is_char_boundary-from : (x : List ℕ) (n : ℕ) → IsCharBoundary x n → is_char_boundary x n ≡ true
is_char_boundary-from x n boundary = and_from _ _ (le-leb n (length x) boundary.0) (no_character_goes_on-boundary x n boundary)

pub is_char_boundary-is : (x : List ℕ) (n : ℕ) → is_char_boundary x n ≡ true → IsCharBoundary x n
is_char_boundary-is x n h = grind (arith, and_parts, good_is_boundary, leb-true)

pub is_char_boundary-decided : (x : List ℕ) (n : ℕ) (b : Bool) → IsTrue b ↔ IsCharBoundary x n → b ≡ is_char_boundary x n
is_char_boundary-decided x n b test = both_ways _ _ (λ yes. is_char_boundary-from x n (test.0 yes)) (λ is. test.1 (is_char_boundary-is x n is))

pub good_inside : (x : List ℕ) (n : ℕ) → IsUtf8 x → IsTrue (is_good_position x n) → IsCharBoundary x (min n (length x))
good_inside x n utf8 good = boundary_inside x n (sym (is_good_position-utf8 x n utf8) ∙ good)

pub boundary_test : (x : List ℕ) (n : ℕ) (b : Bool) → n ≤ length x → IsTrue b ↔ IsCharBoundary x n → b ≡ no_character_goes_on x n
boundary_test x n b within test = both_ways _ _ (λ yes. no_character_goes_on-boundary x n (test.0 yes)) (λ good. test.1 (good_is_boundary x n within good))

pub char_boundary_is : (x : List ℕ) (n : ℕ) → IsTrue (is_char_boundary x n) ↔ IsCharBoundary x n
char_boundary_is x n = (is_char_boundary-is x n, is_char_boundary-from x n)

-- Boundaries of a text and of its plain text, from a place on at which both have the same run.

front_byte : (y run : List ℕ) (k : ℕ) → take (length run) y ≡ run → k < length run → no_character_goes_on y k ≡ no_character_goes_on run k
front_byte y run k is short = ap (λ b. not (is_continuation_byte b)) (sym (get_or-take (length run) y k 0 short)) ∙ ap (λ v. no_character_goes_on v k) is

pub boundary_in_run : (x t run : List ℕ) (place k : ℕ) → take (length run) t ≡ run → take (length run) (drop place x) ≡ run → k < length run → IsCharBoundary t k ↔ IsCharBoundary x (place + k)
boundary_in_run x t run place k front there short =
    let n = length run in
    let fits : k ≤ length t = omega (arith, ap length front, length-take n t, short) in
    let inside : place + k ≤ length x = omega (arith, ap length there, length-take n (drop place x), length-drop place x, short) in
    let same : no_character_goes_on x (place + k) ≡ no_character_goes_on t k
    = sym (no_character_goes_on-drop x place k) ∙ front_byte (drop place x) run k there short ∙ sym (front_byte t run k front short) in (
      λ boundary. good_is_boundary x (place + k) inside (same ∙ no_character_goes_on-boundary t k boundary),
      λ boundary. good_is_boundary t k fits (sym same ∙ no_character_goes_on-boundary x (place + k) boundary),
    )

-- Good ranges.

pub good_range_tests : (x : List ℕ) (s e : ℕ) → s ≤ e → is_good_position x s ≡ true → is_good_position x e ≡ true → is_good_range x s (Some e) ≡ true
good_range_tests x s e ordered from to = and_from _ _ (le-leb s e ordered) (and_from _ _ from to)

pub good_range_from : (x : List ℕ) (s e : ℕ) → s ≤ e → IsCharBoundary x s → IsCharBoundary x e → is_good_range x s (Some e) ≡ true
good_range_from x s e ordered from to = good_range_tests x s e ordered (boundary_is_good x s from) (boundary_is_good x e to)

pub good_range-utf8 : (x : List ℕ) (s e : ℕ) → IsUtf8 x → is_good_range x s (Some e) ≡ (nat_le s e && (no_character_goes_on x s && no_character_goes_on x e))
good_range-utf8 x s e utf8 = ap₂ (λ a b. nat_le s e && (a && b)) (is_good_position-utf8 x s utf8) (is_good_position-utf8 x e utf8)

-- no range ends before its start
pub is_good_range-disordered : (x : List ℕ) (s e : ℕ) → e < s → is_good_range x s (Some e) ≡ false
is_good_range-disordered x s e disordered = ap (λ b. b && (is_good_position x s && is_good_position x e)) (lt-leb s e disordered)

-- each text begins at a good position
pub is_good_range-front : (x : List ℕ) (e : ℕ) → IsUtf8 x → is_good_range x 0 (Some e) ≡ no_character_goes_on x e
is_good_range-front x e utf8 = ap (λ a. a && is_good_position x e) (le-leb 0 e (omega arith)) ∙ is_good_position-utf8 x e utf8

-- all before a character boundary is a good range
pub good_before : (x : List ℕ) (n : ℕ) → IsUtf8 x → IsCharBoundary x n → IsTrue (is_good_range x 0 (Some n))
good_before x n utf8 boundary = good_range_from x 0 n (omega arith) (IsCharBoundary-start x utf8) boundary

-- a range without an end is as good as one up to a position past the end
pub is_good_range-top : (x : List ℕ) (s : ℕ) (end : Option ℕ) {e : ℕ} (top : ℕ) → e ≡ unwrap_or end top → s ≤ top → length x ≤ top → is_good_range x s (Some e) ≡ is_good_range x s end
is_good_range-top x s end top is below past = grind (arith, is_good_position-past, le-leb)

-- Good positions and ranges, in std's words.

pub good_position_is : (x : List ℕ) (n : ℕ) → IsTrue (is_good_position x n) ↔ ((n ≡ 0) ⊎ IsCharBoundary x (min n (length x)))
good_position_is x n = (
  λ good. elim (or_cases (n == 0) (no_character_goes_on x n) good) [ inl front ↦ inl (eqb-true n 0 front) | inr ends ↦ inr (boundary_inside x n ends) ],
  λ is. elim is [
    | inl front ↦ subst (λ k. IsTrue (is_good_position x k)) (sym front) refl
    | inr boundary ↦ (elim (cases_lt n (length x)) [
      | inl within ↦ (let here : min n (length x) ≡ n = omega (arith, within) in boundary_is_good x n (subst (IsCharBoundary x) here boundary))
      | inr past ↦ is_good_position-past x n past
    ])
  ],
)

pub good_range_is : (x : List ℕ) (s e : ℕ) → IsTrue (is_good_range x s (Some e))
    ↔ ((s ≤ e) × ((s ≡ 0) ⊎ IsCharBoundary x (min s (length x))) × ((e ≡ 0) ⊎ IsCharBoundary x (min e (length x))))
good_range_is x s e = (
  λ good. (
      let both = and_parts (nat_le s e) (is_good_position x s && is_good_position x e) good in
      let ends = and_parts (is_good_position x s) (is_good_position x e) both.1 in
      (leb-true s e both.0, (good_position_is x s).0 ends.0, (good_position_is x e).0 ends.1)),
  λ is. good_range_tests x s e is.0 ((good_position_is x s).1 is.1) ((good_position_is x e).1 is.2),
)

-- If a text may be divided or cut at positions, so may its plain text.

pub is_position_in-good : (t : List ℕ) (n : ℕ) → IsUtf8 t → is_position_in t n ≡ is_good_position (plain t) n
is_position_in-good t n utf8 = grind (arith, eqb-true, is_good_position-past, leb-true, length-plain)

pub is_range_in-good : (t : List ℕ) (s : ℕ) (e : Option ℕ) → IsUtf8 t → is_range_in t s e ≡ is_good_range (plain t) s e
is_range_in-good t s None utf8 = is_position_in-good t s utf8
is_range_in-good t s (Some e) utf8 = ap₂ (λ a b. nat_le s e && (a && b)) (is_position_in-good t s utf8) (is_position_in-good t e utf8)

-- `None` is returned exactly if a test fails.

pub none_if_bad : {b : Bool} → b ≡ false → (false ≡ false) ↔ (b ≡ false)
none_if_bad is = (λ _. is, λ _. refl)

pub some_if_good : {b : Bool} → b ≡ true → (true ≡ false) ↔ (b ≡ false)
some_if_good is = (λ e. absurd (cc e), λ bad. absurd (cc (is, bad)))
