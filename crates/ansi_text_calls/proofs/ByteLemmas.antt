-- The parts of a text without ESC around the places of a byte.
use Rattle.std.proofs.Common.{◌≡◌, ◌∙◌, ℕ, zero, suc, ◌+◌, ◌-◌, ◌<◌, ◌≤◌, Bool, true, false, List, [], ◌∷◌, ◌++◌, length, map, drop, filter, slice_index, slice_range, nat_eq, sym, ap, arith, drop-cons, add-one, IsUtf8, if◌then◌else◌}
use Rattle.std.specs.Prelude.{zip}
use Rattle.std.specs.List.{range_with_len, starts_with}
use Rattle.std.proofs.lemmas.Bool.{eqb-true, eq-eqb}
use Rattle.std.proofs.lemmas.List.{drop_all}
use Rattle.memchr.specs.Find.{is_byte, places_from, places_between, places}
use Rattle.ansi_search.specs.Matches.{is_match}
use Rattle.ansi_search.proofs.MatchLemmas.{is_match-utf8}
use Rattle.ansi_search.proofs.SliceLemmas.{slice_range-past}
use Rattle.ansi_split.specs.Parts.{without_overlaps}
use Rattle.ansi_str.specs.StdSplit.{slices_over}
use Rattle.ansi_str.specs.Parts.{parts, all_parts}

-- the stretches of x before, between and after places, from the place e on
abbrev pub between : List ℕ → ℕ → List ℕ → List (List ℕ)
between x e [] = drop e x ∷ []
between x e (m ∷ ms) = slice_range x e m ∷ between x (m + 1) ms

-- what is left of the places after the first of them
pub record IsFirstPlace (b : ℕ) (x : List ℕ) (e m : ℕ) (ms : List ℕ) : Type 0 where
  pub low : e ≤ m
  pub high : m < length x
  pub later : ms ≡ places_between (is_byte b) x (m + 1) (length x)

places_from-first : (test : ℕ → Bool) (x : List ℕ) (e n m : ℕ) (ms : List ℕ) → places_from test x e n ≡ m ∷ ms → (e ≤ m) × (m < e + n) × (ms ≡ places_between test x (m + 1) (e + n))
unfolding places_from
places_from-first test x e zero m ms is = absurd (cc is)
places_from-first test x e (suc n) m ms is = by_test (test (slice_index x e)) is (places_from-first test x (e + 1) n m ms)
  where
    end : e + suc n ≡ e + 1 + n
    end = omega arith

    by_test : (here : Bool) → (if here then e ∷ places_from test x (e + 1) n else places_from test x (e + 1) n) ≡ m ∷ ms
        → (places_from test x (e + 1) n ≡ m ∷ ms → (e + 1 ≤ m) × (m < e + 1 + n) × (ms ≡ places_between test x (m + 1) (e + 1 + n)))
        → (e ≤ m) × (m < e + suc n) × (ms ≡ places_between test x (m + 1) (e + suc n))
    by_test true is more =
        let first : e ≡ m = cc is in
        let size : n ≡ e + suc n - (e + 1) = omega arith in
        let later : places_from test x (e + 1) n ≡ ms = cc is in
        (omega (arith, first), omega (arith, first), sym later ∙ ap (places_from test x (e + 1)) size ∙ ap (λ k. places_between test x (k + 1) (e + suc n)) first)
    by_test false is more =
        let one = more is in
        (omega (arith, one.0), omega (arith, one.1), one.2 ∙ ap (places_between test x (m + 1)) (sym end))

pub first_place : (b : ℕ) (x : List ℕ) (e m : ℕ) (left ms : List ℕ) → e ≤ length x → left ≡ places_between (is_byte b) x e (length x) → left ≡ m ∷ ms → IsFirstPlace b x e m ms
first_place b x e m left ms inside are is =
    let end : e + (length x - e) ≡ length x = omega (arith, inside) in
    let first = places_from-first (is_byte b) x e (length x - e) m ms (sym are ∙ is) in
    record { low = first.0; high = omega (arith, first.1, end); later = first.2 ∙ ap (places_between (is_byte b) x (m + 1)) end }

-- A pattern of one byte is matched where the byte is.

same_byte : (b c : ℕ) → starts_with nat_eq (c ∷ []) (b ∷ []) ≡ is_byte b c
same_byte b c = grind (arith, eqb-true, eq-eqb)

is_match-byte : (b : ℕ) (x : List ℕ) (i : ℕ) → IsUtf8 (b ∷ []) → i < length x → is_match x (b ∷ []) i ≡ is_byte b (slice_index x i)
is_match-byte b x i utf8 inside =
    is_match-utf8 x (b ∷ []) i utf8 (omega arith) ∙ ap (λ u. starts_with nat_eq u (b ∷ [])) (drop-cons x i 0 inside)
    ∙ same_byte b (slice_index x i)

no_match-end : (b : ℕ) (x : List ℕ) (i : ℕ) → IsUtf8 (b ∷ []) → i ≡ length x → is_match x (b ∷ []) i ≡ false
no_match-end b x i utf8 end = is_match-utf8 x (b ∷ []) i utf8 (omega arith) ∙ ap (λ u. starts_with nat_eq u (b ∷ [])) (drop_all i x (omega (arith, end)))

taken-byte : (b : ℕ) (x : List ℕ) (e i n : ℕ) → IsUtf8 (b ∷ []) → e ≤ i → i + n ≡ length x
    → without_overlaps 1 e (filter (is_match x (b ∷ [])) (range_with_len i (suc n))) ≡ places_from (is_byte b) x i n
unfolding places_from
taken-byte b x e i zero utf8 low end = grind (arith, no_match-end b x i utf8 (omega (arith, end)))
taken-byte b x e i (suc n) utf8 low end =
    grind (arith, is_match-byte b x i utf8 (omega (arith, end)), taken-byte b x (i + 1) (i + 1) n utf8 (omega arith) (omega (arith, end)), taken-byte b x e (i + 1) n utf8 (omega (arith, low)) (omega (arith, end)))

-- The parts are the stretches between.

slices_over-between : (x : List ℕ) (e : ℕ) (ms : List ℕ) → slices_over x (zip (e ∷ map (λ m. m + 1) ms) (ms ++ length x ∷ [])) ≡ between x e ms
slices_over-between x e [] = ap (λ u. u ∷ []) (slice_range-past x e (length x) (omega arith))
slices_over-between x e (m ∷ ms) = ap (λ us. slice_range x e m ∷ us) (slices_over-between x (m + 1) ms)

pub all_parts-between : (b : ℕ) (t : List ℕ) → IsUtf8 (b ∷ []) → all_parts t (b ∷ []) ≡ slices_over t (parts t (b ∷ [])) → all_parts t (b ∷ []) ≡ between t 0 (places (is_byte b) t)
all_parts-between b t utf8 are =
    are ∙ ap (λ ms. slices_over t (zip (0 ∷ map (λ m. m + 1) ms) (ms ++ length t ∷ []))) (ap (λ n. without_overlaps 1 0 (filter (is_match t (b ∷ [])) (range_with_len 0 n))) (add-one (length t)) ∙ taken-byte b t 0 0 (length t) utf8 (omega arith) (omega arith))
    ∙ slices_over-between t 0 (places_from (is_byte b) t 0 (length t)) ∙ ap (λ n. between t 0 (places_from (is_byte b) t 0 n)) (omega arith)
