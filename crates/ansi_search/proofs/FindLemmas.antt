-- The first match is the one that std's `find` gives.
use Rattle.ansi_search.proofs.Common.{◌≡◌, ℕ, ◌+◌, ◌<◌, ◌≤◌, List, ◌∷◌, ◌++◌, take, drop, length, nat_eq, IsTrue, Option, Some, None, MatchOption, refl, sym, ◌∙◌, ap, subst, arith, IfSome, and_parts, and_from, take_at, drop-drop, length-append, IsUtf8-drop, IsCharBoundary-start, IsCharBoundary-from_take, IsCharBoundary-from_rest, starts_with, IsUtf8, IsCharBoundary, FindsText, LacksTextAt, HasTextAt, MatchBeginsAt, IsFirst, is_char_boundary, is_good_range, []}
use Rattle.ansi_search.proofs.PositionLemmas.{is_char_boundary-from, is_char_boundary-is, boundary_is_good, good_range_from, good_before}
use Rattle.ansi_search.proofs.MatchLemmas.{IsMatch, is_match-utf8, starts_with-from, starts_with-splits}

-- A match, in std's words.

match_splits : (x p : List ℕ) (i : ℕ) → IsMatch x p i → drop i x ≡ p ++ drop (i + length p) x
match_splits x p i found =
    starts_with-splits (drop i x) p (and_parts (is_char_boundary x i) (starts_with nat_eq (drop i x) p) found).1 ∙ ap (λ v. p ++ v) (drop-drop (length p) i x)

match_begins : (x p : List ℕ) (i : ℕ) → IsMatch x p i → IsCharBoundary x i
match_begins x p i found = is_char_boundary-is x i (and_parts (is_char_boundary x i) (starts_with nat_eq (drop i x) p) found).0

match_ends : (x p : List ℕ) (i : ℕ) → IsUtf8 x → IsUtf8 p → IsMatch x p i → IsCharBoundary x (i + length p)
match_ends x p i utf8 utf8_p found =
    let begins = match_begins x p i found in
    let splits = match_splits x p i found in
    let front : take (length p) (drop i x) ≡ p = ap (take (length p)) splits ∙ take_at p (drop (i + length p) x) (length p) refl in
    let len : length p ≤ length (drop i x) = omega (arith, ap length splits, length-append p (drop (i + length p) x)) in
    IsCharBoundary-from_rest x i (length p) begins.0 (IsCharBoundary-from_take (drop i x) (length p) (IsUtf8-drop x i utf8 begins) len (subst IsUtf8 (sym front) utf8_p))

pub HasTextAt-match : (x p : List ℕ) (i : ℕ) → IsUtf8 x → IsUtf8 p → IsMatch x p i → HasTextAt p x i (i + length p)
HasTextAt-match x p i utf8 utf8_p found = record { split = match_splits x p i found; ends = refl; after = match_ends x p i utf8 utf8_p found }

pub no_match_lacks : (x p : List ℕ) (i : ℕ) → IsUtf8 p → 0 < length p → ¬ (IsMatch x p i) → LacksTextAt p x i
no_match_lacks x p i utf8 some none = λ rest is. none (is_match-utf8 x p i utf8 some ∙ starts_with-from (drop i x) p rest is)

-- an empty pattern is at the front
empty_at_front : (x : List ℕ) → IsUtf8 x → IsMatch x [] 0
empty_at_front x utf8 = and_from _ _ (is_char_boundary-from x 0 (IsCharBoundary-start x utf8)) refl

pub finds_text : (x p : List ℕ) (r : Option ℕ) → IsUtf8 x → IsUtf8 p → IsFirst (IsMatch x p) 0 (length x + 1) r → MatchOption r (FindsText p x None) (MatchBeginsAt (FindsText p) x)
finds_text x [] None utf8 utf8_p first = absurd (first 0 (omega arith) (omega arith) (empty_at_front x utf8))
finds_text x (b ∷ p) None utf8 utf8_p first = λ i inside. no_match_lacks x (b ∷ p) i utf8_p (omega arith) (first i (omega arith) (omega (arith, inside)))
finds_text x p (Some i) utf8 utf8_p first =
    let found = first.0 in
    (i + length p, (lacks p utf8_p first, HasTextAt-match x p i utf8 utf8_p first.1), omega arith, match_begins x p i first.1, match_ends x p i utf8 utf8_p first.1)
  where
    lacks : (q : List ℕ) → IsUtf8 q → IsFirst (IsMatch x q) 0 (length x + 1) (Some i) → (k : ℕ) → k < i → LacksTextAt q x k
    lacks [] utf8_q first k before = (let found = first.0 in absurd (found.before 0 (omega arith) (omega (arith, before)) (empty_at_front x utf8)))
    lacks (b ∷ q) utf8_q first k before = (let found = first.0 in no_match_lacks x (b ∷ q) k utf8_q (omega arith) (found.before k (omega arith) before))

pub finds_good_range : (x p : List ℕ) (r : Option ℕ) → IsUtf8 x → IsUtf8 p → IsFirst (IsMatch x p) 0 (length x + 1) r → IfSome r (λ i. IsTrue (is_good_range x i (Some (i + length p))))
finds_good_range x p None utf8 utf8_p first = tt
finds_good_range x p (Some i) utf8 utf8_p first = good_range_from x i (i + length p) (omega arith) (match_begins x p i first.1) (match_ends x p i utf8 utf8_p first.1)

-- what comes before a match, and what comes after it, are good ranges too
pub finds_good_before : (x p : List ℕ) (r : Option ℕ) → IsUtf8 x → IsFirst (IsMatch x p) 0 (length x + 1) r → IfSome r (λ i. IsTrue (is_good_range x 0 (Some i)))
finds_good_before x p None utf8 first = tt
finds_good_before x p (Some i) utf8 first = good_before x i utf8 (match_begins x p i first.1)

pub finds_good_after : (x p : List ℕ) (r : Option ℕ) → IsUtf8 x → IsUtf8 p → IsFirst (IsMatch x p) 0 (length x + 1) r → IfSome r (λ i. IsTrue (is_good_range x (i + length p) None))
finds_good_after x p None utf8 utf8_p first = tt
finds_good_after x p (Some i) utf8 utf8_p first = boundary_is_good x (i + length p) (match_ends x p i utf8 utf8_p first.1)

pub finds_within : (x p : List ℕ) (r : Option ℕ) → IsUtf8 x → IsUtf8 p → IsFirst (IsMatch x p) 0 (length x + 1) r → IfSome r (λ i. i + length p ≤ length x)
finds_within x p None utf8 utf8_p first = tt
finds_within x p (Some i) utf8 utf8_p first = (match_ends x p i utf8 utf8_p first.1).0
