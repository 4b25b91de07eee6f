-- The parts of a text are the intervals between the first matches of a pattern that isn't empty.
use Rattle.ansi_split.proofs.Common.{◌≡◌, ◌≢◌, ℕ, zero, suc, ◌+◌, ◌<◌, ◌≤◌, inl, inr, Bool, List, [], ◌∷◌, ◌++◌, drop, length, map, filter, zip, refl, sym, ◌∙◌, ap, subst, arith, true≢false, if◌then◌else◌, cond_both, cases_lt, le-leb, lt-leb, IsCharBoundary-start, IsCharBoundary-end, range_with_len, IsUtf8, IsCharBoundary, LacksTextAt, HasTextAt, is_match, without_overlaps, parts, AreBetween, AreInTurn, boundary_at}
use Rattle.ansi_search.proofs.FindLemmas.{HasTextAt-match, no_match_lacks}

pub length-nonempty : (p : List ℕ) → p ≢ [] → 0 < length p
length-nonempty [] some = absurd (some refl)
length-nonempty (b ∷ p) some = omega arith

-- The intervals between the matches that are taken, from the place e on.

abbrev intervals_between_matches : List ℕ → List ℕ → ℕ → List ℕ → List (ℕ × ℕ)
intervals_between_matches x p e taken = zip (e ∷ map (λ m. m + length p) taken) (taken ++ length x ∷ [])

between_more : (x p : List ℕ) (e k : ℕ) (is : List (ℕ × ℕ)) → e ≤ k → HasTextAt p x k (k + length p) → ((i : ℕ) → e ≤ i → i < k → LacksTextAt p x i)
    → AreBetween x p (k + length p) is → AreBetween x p e ((e, k) ∷ is)
between_more x p e k [] from stands none more = absurd more
between_more x p e k (j ∷ is) from stands none more = (refl, from, stands, none, more)

-- what is taken of a match m and those after it, if b says whether m is taken
abbrev pub taken_with : ℕ → ℕ → ℕ → List ℕ → Bool → List ℕ
taken_with n e m ms b = (let more = without_overlaps n (if b then m + n else e) ms in if b then m ∷ more else more)

are_between : (x p : List ℕ) → IsUtf8 x → IsUtf8 p → p ≢ [] → (n k e : ℕ) → k + n ≡ length x + 1 → e ≤ length x → ((i : ℕ) → e ≤ i → i < k → LacksTextAt p x i)
    → AreBetween x p e (intervals_between_matches x p e (without_overlaps (length p) e (filter (is_match x p) (range_with_len k n))))
are_between x p utf8 utf8_p some zero k e all fits none = (refl, refl, fits, λ i from to. none i from (omega (arith, all, to)))
are_between x p utf8 utf8_p some (suc n) k e all fits none =
    let ms = filter (is_match x p) (range_with_len (k + 1) n) in
    let size = length-nonempty p some in
    cond_both (is_match x p k) (k ∷ ms) ms (λ ks. AreBetween x p e (intervals_between_matches x p e (without_overlaps (length p) e ks)))
    (λ found. elim (cases_lt k e) [
      | inl early ↦
          subst (λ taken. AreBetween x p e (intervals_between_matches x p e taken)) (sym (ap (taken_with (length p) e k ms) (lt-leb e k early)))
          (are_between x p utf8 utf8_p some n (k + 1) e (omega (arith, all)) fits (λ i from to. absurd (omega (arith, early, from, to))))
      | inr from ↦
          (let stands = HasTextAt-match x p k utf8 utf8_p found in
          subst (λ taken. AreBetween x p e (intervals_between_matches x p e taken)) (sym (ap (taken_with (length p) e k ms) (le-leb e k from)))
          (between_more x p e k (intervals_between_matches x p (k + length p) (without_overlaps (length p) (k + length p) ms)) from stands none
          (are_between x p utf8 utf8_p some n (k + 1) (k + length p) (omega (arith, all)) stands.after.0 (λ i late to. absurd (omega (arith, late, to, size))))))
    ])
    (λ missed. are_between x p utf8 utf8_p some n (k + 1) e (omega (arith, all)) fits
    (λ i from to. elim (cases_lt i k) [
      | inl before ↦ none i from before
      | inr at ↦ (let here : k ≡ i = omega (arith, to, at) in subst (LacksTextAt p x) here (no_match_lacks x p k utf8_p (length-nonempty p some) (λ found. true≢false (sym found ∙ missed))))
    ]))

pub parts_are_between : (x p : List ℕ) → IsUtf8 x → IsUtf8 p → p ≢ [] → AreBetween x p 0 (parts x p)
parts_are_between x p utf8 utf8_p some =
    are_between x p utf8 utf8_p some (length x + 1) 0 0 (omega arith) (omega arith) (λ i from to. absurd (omega (arith, to)))

-- Such intervals are in the text, in order.

between_in_turn : (x p : List ℕ) (d e : ℕ) (is : List (ℕ × ℕ)) → IsUtf8 p → p ≢ [] → d ≤ e → IsCharBoundary x e → AreBetween x p e is → AreInTurn x d is
between_in_turn x p d e [] utf8 some le boundary are = tt
between_in_turn x p d e (i ∷ []) utf8 some le boundary are =
    (omega (arith, le, are.0), omega (arith, are.0, are.2), subst (IsCharBoundary x) (sym are.0) boundary, subst (IsCharBoundary x) (sym are.1) (IsCharBoundary-end x), tt)
between_in_turn x p d e (i ∷ j ∷ is) utf8 some le boundary are = (
  omega (arith, le, are.0),
  omega (arith, are.0, are.1),
  subst (IsCharBoundary x) (sym are.0) boundary,
  boundary_at x p (drop (i.1 + length p) x) i.1 utf8 (length-nonempty p some) are.2.split,
  between_in_turn x p i.1 (i.1 + length p) (j ∷ is) utf8 some (omega arith) are.2.after are.4,
)

pub filled_parts_in_turn : (x p : List ℕ) → IsUtf8 x → IsUtf8 p → p ≢ [] → AreInTurn x 0 (parts x p)
filled_parts_in_turn x p utf8 utf8_p some = between_in_turn x p 0 0 (parts x p) utf8_p some (omega arith) (IsCharBoundary-start x utf8) (parts_are_between x p utf8 utf8_p some)
