-- The matches that are left after the first.
use Rattle.std.proofs.Common.{◌≡◌, ℕ, zero, suc, ◌+◌, ◌<◌, ◌≤◌, ◌==◌, max, inl, inr, Bool, true, false, Option, IfSome, IsFalse, IsSome, List, [], ◌∷◌, length, map, filter, drop, nat_eq, nat_le, Some, None, refl, sym, ◌∙◌, ap, ap₂, subst, arith, IsTrue, if◌then◌else◌}
use Rattle.std.specs.Option.{MatchOption}
use Rattle.std.specs.List.{range_with_len, starts_with}
use Rattle.std.specs.Str.{IsUtf8, IsCharBoundary}
use Rattle.std.proofs.lemmas.Bool.{and_from, and_parts, cases_lt, cond_both, eq-eqb, eqb-true, le-leb, lt-leb}
use Rattle.std.proofs.lemmas.List.{length-map, length-drop, drop-drop}
use Rattle.std.proofs.lemmas.List.FromFn.{length-range_with_len}
use Rattle.std.proofs.lemmas.List.Sums.{length-filter, count_by-le-length}
use Rattle.ansi_search.specs.Positions.{is_char_boundary, is_good_range, no_character_goes_on}
use Rattle.ansi_search.proofs.MatchLemmas.{match_fits, is_match-drop}
use Rattle.ansi_search.proofs.FindLemmas.{HasTextAt-match}
use Rattle.ansi_search.proofs.PositionLemmas.{good_range_from, is_char_boundary-is, no_character_goes_on-boundary}
use Rattle.ansi_search.specs.Matches.{is_match, match_places, first_match_from}
use Rattle.ansi_split.specs.Parts.{without_overlaps}
use Rattle.ansi_split.proofs.TakenLemmas.{without_overlaps-none, is_first_taken}
use Rattle.ansi_split.proofs.SpanLemmas.{match_is_good}
use Rattle.ansi_restyle.specs.Ranges.{are_in_turn, are_empty}
use Rattle.ansi_restyle.specs.Matches.{matches, matches_left}

-- the matches at these places, n bytes further on
abbrev at_places : ℕ → List ℕ → List ℕ → List (ℕ × ℕ)
at_places n p ms = map (λ m. (n + m, n + m + length p)) ms

at_places-0 : (p ms : List ℕ) → at_places 0 p ms ≡ map (λ m. (m, m + length p)) ms
at_places-0 p [] = refl
at_places-0 p (m ∷ ms) =
    let same : 0 + m ≡ m = omega arith in
    ap₂ (λ k ks. (k, k + length p) ∷ ks) same (at_places-0 p ms)

at_places-further : (n m : ℕ) (p ms : List ℕ) → at_places n p (map (λ k. m + k) ms) ≡ at_places (n + m) p ms
at_places-further n m p [] = refl
at_places-further n m p (k ∷ ms) =
    let same : n + (m + k) ≡ n + m + k = omega arith in
    ap₂ (λ i ks. (i, i + length p) ∷ ks) same (at_places-further n m p ms)

pub matches_left-all : (x p : List ℕ) → matches_left 0 x p 0 ≡ matches x p
matches_left-all x p = at_places-0 p (without_overlaps (length p) 0 (match_places x p))

pub matches_left-none : (n : ℕ) (x p : List ℕ) (from : ℕ) → first_match_from x p from ≡ None → matches_left n x p from ≡ []
matches_left-none n x p from none = ap (at_places n p) (without_overlaps-none (length p) from (match_places x p) none)

pub matches_left-first : (n : ℕ) (x p : List ℕ) (from m : ℕ) → first_match_from x p from ≡ Some m
    → matches_left n x p from ≡ (n + m, n + m + length p) ∷ matches_left (n + m) (drop m x) p (max (length p) 1)
matches_left-first n x p from m found =
    ap (at_places n p) (is_first_taken x p from m found).taken
    ∙ ap (λ ks. (n + m, n + m + length p) ∷ ks) (at_places-further n m p (without_overlaps (length p) (max (length p) 1) (match_places (drop m x) p)))

-- A match that is found is in x, at a good position.

pub match_within : (x p : List ℕ) (from m : ℕ) → first_match_from x p from ≡ Some m → m ≤ length x
match_within x p from m found = (is_first_taken x p from m found).inside

pub match_ends_within : (x p : List ℕ) (from m : ℕ) → first_match_from x p from ≡ Some m → m + length p ≤ length x
match_ends_within x [] from m found = (let inside = match_within x [] from m found in omega (arith, inside))
match_ends_within x (b ∷ p) from m found = match_fits x (b ∷ p) m (omega arith) (is_first_taken x (b ∷ p) from m found).matches

pub match_begins_good : (x p : List ℕ) (from m : ℕ) → first_match_from x p from ≡ Some m → IsTrue (no_character_goes_on x m)
match_begins_good = match_is_good

pub match_ends_boundary : (x p : List ℕ) (from m : ℕ) → IsUtf8 x → IsUtf8 p → first_match_from x p from ≡ Some m → IsCharBoundary x (m + length p)
match_ends_boundary x p from m utf8 utf8_p found = (HasTextAt-match x p m utf8 utf8_p (is_first_taken x p from m found).matches).after

-- it is a good range
pub match_good_range : (x p : List ℕ) (from : ℕ) (r : Option ℕ) → IsUtf8 x → IsUtf8 p → r ≡ first_match_from x p from → IfSome r (λ m. IsTrue (is_good_range x m (Some (m + length p))))
match_good_range x p from None utf8 utf8_p found = tt
match_good_range x p from (Some m) utf8 utf8_p found =
    let is = (is_first_taken x p from m (sym found)).matches in
    let begins = is_char_boundary-is x m (and_parts (is_char_boundary x m) (starts_with nat_eq (drop m x) p) is).0 in
    good_range_from x m (m + length p) (omega arith) begins (match_ends_boundary x p from m utf8 utf8_p (sym found))

-- so what is divided there is something
pub some_if_good : {A : Type 0} (r : Option A) (b : Bool) (Q : A → Type 0) → MatchOption r (IsFalse b) Q → IsTrue b → IsSome r
some_if_good None b Q bad good = absurd (cc (bad, good))
some_if_good (Some a) b Q is good = refl

-- There is at most one match more than bytes.

length-without_overlaps : (n e : ℕ) (ms : List ℕ) → length (without_overlaps n e ms) ≤ length ms
length-without_overlaps n e [] = omega arith
length-without_overlaps n e (m ∷ ms) = grind (arith, length-without_overlaps n (if nat_le e m then m + n else e) ms)

pub length-matches_left : (n : ℕ) (x p : List ℕ) (from : ℕ) → length (matches_left n x p from) ≤ length x + 1
length-matches_left n x p from =
    let places = match_places x p in
    let taken = without_overlaps (length p) from places in
    let same : length (matches_left n x p from) ≡ length taken = length-map taken _ in
    omega (arith, same, length-without_overlaps (length p) from places, length-filter (is_match x p) (range_with_len 0 (length x + 1)), count_by-le-length (is_match x p) (range_with_len 0 (length x + 1)), length-range_with_len 0 (length x + 1))

-- A match that begins at the end of the one before it or later is taken, and an earlier one is passed over.

without_overlaps-taken : (n e m : ℕ) (ms : List ℕ) → e ≤ m → without_overlaps n e (m ∷ ms) ≡ m ∷ without_overlaps n (m + n) ms
without_overlaps-taken n e m ms from = ap (λ b. if b then m ∷ without_overlaps n (if b then m + n else e) ms else without_overlaps n (if b then m + n else e) ms) (le-leb e m from)

without_overlaps-passed : (n e m : ℕ) (ms : List ℕ) → m < e → without_overlaps n e (m ∷ ms) ≡ without_overlaps n e ms
without_overlaps-passed n e m ms before = ap (λ b. if b then m ∷ without_overlaps n (if b then m + n else e) ms else without_overlaps n (if b then m + n else e) ms) (lt-leb e m before)

-- The matches are ranges in turn.

abbrev as_range : List ℕ → ℕ → ℕ × ℕ
as_range p m = (m, m + length p)

abbrev later_places : List ℕ → List ℕ → ℕ → ℕ → List ℕ
later_places x p i k = filter (is_match x p) (range_with_len i k)

pub in_turn-first : (x : List ℕ) (e : ℕ) (r : ℕ × ℕ) (rs : List (ℕ × ℕ)) → e ≤ r.0 → r.0 ≤ r.1 → IsTrue (no_character_goes_on x r.0) → IsTrue (no_character_goes_on x r.1) → are_in_turn x r.1 rs ≡ true → are_in_turn x e (r ∷ rs) ≡ true
in_turn-first x e r rs begins ends good_start good_end later =
    and_from _ _ (le-leb e r.0 begins) (and_from _ _ (le-leb r.0 r.1 ends) (and_from _ _ good_start (and_from _ _ good_end later)))

taken_in_turn : (x p : List ℕ) → IsUtf8 x → IsUtf8 p → (i k e : ℕ) → e ≤ length x → are_in_turn x e (map (as_range p) (without_overlaps (length p) e (later_places x p i k))) ≡ true
taken_in_turn x p utf8 utf8_p i zero e inside = le-leb e (length x) inside
taken_in_turn x p utf8 utf8_p i (suc k) e inside =
    let later = later_places x p (i + 1) k in
    let goal : List ℕ → Type 0 = λ ks. are_in_turn x e (map (as_range p) (without_overlaps (length p) e ks)) ≡ true in
    cond_both (is_match x p i) (i ∷ later) later goal
    (λ is. (
    let boundary = (HasTextAt-match x p i utf8 utf8_p is).after in
    let fits : i + length p ≤ length x = boundary.0 in
    let good = and_parts (nat_le i (length x)) (no_character_goes_on x i) (and_parts (is_char_boundary x i) (starts_with nat_eq (drop i x) p) is).0 in
    elim (cases_lt i e) [
      | inl before ↦
          subst (λ ks. are_in_turn x e (map (as_range p) ks) ≡ true) (sym (without_overlaps-passed (length p) e i later before)) (taken_in_turn x p utf8 utf8_p (i + 1) k e inside)
      | inr at ↦
          subst (λ ks. are_in_turn x e (map (as_range p) ks) ≡ true) (sym (without_overlaps-taken (length p) e i later at))
          (in_turn-first x e (i, i + length p) (map (as_range p) (without_overlaps (length p) (i + length p) later)) at (omega arith) good.1 (no_character_goes_on-boundary x (i + length p) boundary)
          (taken_in_turn x p utf8 utf8_p (i + 1) k (i + length p) fits))
    ]))
    (λ no. taken_in_turn x p utf8 utf8_p (i + 1) k e inside)

pub matches_in_turn : (x p : List ℕ) → IsUtf8 x → IsUtf8 p → IsTrue (are_in_turn x 0 (matches x p))
matches_in_turn x p utf8 utf8_p = taken_in_turn x p utf8 utf8_p 0 (length x + 1) 0 (omega arith)

-- The matches of an empty pattern are empty.

pub matches-empty : (x p : List ℕ) → (length p == 0) ≡ true → are_empty (matches x p) ≡ true
matches-empty x p empty = each (without_overlaps (length p) 0 (match_places x p))
  where
    each : (ms : List ℕ) → are_empty (map (as_range p) ms) ≡ true
    each [] = refl
    each (m ∷ ms) =
        let none : length p ≡ 0 = eqb-true (length p) 0 empty in
        and_from (m == m + length p) (are_empty (map (as_range p) ms)) (eq-eqb m (m + length p) (omega (arith, none))) (each ms)

-- The matches from a place on are those of what follows the place.

matches-drop : (x p : List ℕ) (m i n : ℕ) → m ≤ length x → filter (is_match x p) (range_with_len (m + i) n) ≡ map (λ k. m + k) (filter (is_match (drop m x) p) (range_with_len i n))
matches-drop x p m i zero within = refl
matches-drop x p m i (suc n) within = grind (arith, is_match-drop, matches-drop x p m (i + 1) n within)

-- those before the end don't count
without_overlaps-before : (q : ℕ → Bool) (n e i k j : ℕ) → i + k ≤ e → without_overlaps n e (filter q (range_with_len i (k + j))) ≡ without_overlaps n e (filter q (range_with_len (i + k) j))
without_overlaps-before q n e i zero j before = grind arith
without_overlaps-before q n e i (suc k) j before =
    let here : i + 1 + k ≡ i + suc k = omega arith in
    let size : suc k + j ≡ suc (k + j) = omega arith in
    ap (λ a. without_overlaps n e (filter q (range_with_len i a))) size
    ∙ either (q i) (filter q (range_with_len (i + 1) (k + j)))
    ∙ without_overlaps-before q n e (i + 1) k j (omega arith) ∙ ap (λ a. without_overlaps n e (filter q (range_with_len a j))) here
  where
    either : (b : Bool) (ms : List ℕ) → without_overlaps n e (if b then i ∷ ms else ms) ≡ without_overlaps n e ms
    either true ms = without_overlaps-passed n e i ms (omega arith)
    either false ms = refl

without_overlaps-further : (n e m : ℕ) (ms : List ℕ) → without_overlaps n (m + e) (map (λ k. m + k) ms) ≡ map (λ k. m + k) (without_overlaps n e ms)
without_overlaps-further n e m [] = refl
without_overlaps-further n e m (k ∷ ms) = elim (cases_lt k e) [
  | inl before ↦
      without_overlaps-passed n (m + e) (m + k) (map (λ k. m + k) ms) (omega arith) ∙ without_overlaps-further n e m ms
      ∙ ap (map (λ k. m + k)) (sym (without_overlaps-passed n e k ms before))
  | inr from ↦ (
      let end : m + k + n ≡ m + (k + n) = omega arith in
      without_overlaps-taken n (m + e) (m + k) (map (λ k. m + k) ms) (omega arith)
      ∙ ap (λ ks. (m + k) ∷ ks) (ap (λ a. without_overlaps n a (map (λ k. m + k) ms)) end ∙ without_overlaps-further n (k + n) m ms)
      ∙ ap (map (λ k. m + k)) (sym (without_overlaps-taken n e k ms from)))
]

pub matches_left-past : (n : ℕ) (y p : List ℕ) (d : ℕ) → d ≤ length y → matches_left n y p d ≡ matches_left (n + d) (drop d y) p 0
matches_left-past n y p d within =
    let l = length p in
    let q = is_match y p in
    let z = drop d y in
    let count = length z + 1 in
    let size : length y + 1 ≡ d + count = omega (arith, length-drop d y, within) in
    let from_zero : 0 + d ≡ d + 0 = omega arith in
    let end : d ≡ d + 0 = omega arith in
    ap (at_places n p) (
    ap (λ k. without_overlaps l d (filter q (range_with_len 0 k))) size
    ∙ without_overlaps-before q l d 0 d count (omega arith)
    ∙ ap (λ a. without_overlaps l d (filter q (range_with_len a count))) from_zero
    ∙ ap (without_overlaps l d) (matches-drop y p d 0 count within)
    ∙ ap (λ a. without_overlaps l a (map (λ k. d + k) (match_places z p))) end
    ∙ without_overlaps-further l 0 d (match_places z p))
    ∙ at_places-further n d p (without_overlaps l 0 (match_places z p))

-- after a match of a pattern that isn't empty
pub matches-after : (x p : List ℕ) (m : ℕ) → 0 < length p → first_match_from x p 0 ≡ Some m
    → matches x p ≡ (m, m + length p) ∷ matches_left (m + length p) (drop (m + length p) x) p 0
matches-after x p m filled found =
    let d = length p in
    let fits = match_ends_within x p 0 m found in
    let within : d ≤ length (drop m x) = omega (arith, fits, length-drop m x) in
    let most : max d 1 ≡ d = omega arith in
    let from_zero : 0 + m ≡ m = omega arith in
    sym (matches_left-all x p) ∙ matches_left-first 0 x p 0 m found
    ∙ ap₂ (λ k e. (k, k + d) ∷ matches_left k (drop m x) p e) from_zero most
    ∙ ap (λ ks. (m, m + d) ∷ ks) (matches_left-past m (drop m x) p d within ∙ ap (λ z. matches_left (m + d) z p 0) (drop-drop d m x))

-- no match
pub matches-none : (x p : List ℕ) → first_match_from x p 0 ≡ None → matches x p ≡ []
matches-none x p none = sym (matches_left-all x p) ∙ matches_left-none 0 x p 0 none

-- The matches of a pattern that isn't empty aren't empty.
pub matches-some : (x p : List ℕ) (m : ℕ) → (length p == 0) ≡ false → first_match_from x p 0 ≡ Some m → are_empty (matches x p) ≡ true → ⊥
matches-some x [] m filled found none = cc filled
matches-some x (b ∷ p) m filled found none =
    let some : 0 < length (b ∷ p) = omega arith in
    let same : m ≡ m + length (b ∷ p) = eqb-true m (m + length (b ∷ p)) (and_parts (m == m + length (b ∷ p)) _ (sym (ap are_empty (matches-after x (b ∷ p) m some found)) ∙ none)).0 in
    omega (arith, same, some)
