-- The first match of a pattern that a text begins or ends with, in std's words.
use Rattle.std.proofs.Common.{◌≡◌, ℕ, ◌-◌, ◌++◌, inl, inr, Bool, true, false, List, take, drop, length, nat_eq, Option, Some, None, MatchOption, is_some, refl, sym, ◌∙◌, ap, arith}
use Rattle.std.proofs.lemmas.Bool.{cases_lt, eqb-true, eq-eqb}
use Rattle.std.proofs.lemmas.List.{take-append-drop, take_at, take_all, length-drop}
use Rattle.std.proofs.lemmas.Slice.Eq.{bytes_eq-Decides}
use Rattle.std.specs.Cmp.{both_ways}
use Rattle.std.specs.Cmp.Lexicographic.{pointwise}
use Rattle.std.specs.Option.{option_eq}
use Rattle.std.specs.List.{starts_with, ends_with}
use Rattle.std.specs.Str.Pattern.{FindsText, MatchBeginsAt}

starts_with-from : (x p rest : List ℕ) → x ≡ p ++ rest → starts_with nat_eq x p ≡ true
starts_with-from x p rest is = (bytes_eq-Decides p (take (length p) x)).1 (sym (ap (take (length p)) is ∙ take_at p rest (length p) refl))

starts_with-splits : (x p : List ℕ) → starts_with nat_eq x p ≡ true → x ≡ p ++ drop (length p) x
starts_with-splits x p h = sym (take-append-drop (length p) x) ∙ ap (λ v. v ++ drop (length p) x) (sym ((bytes_eq-Decides p (take (length p) x)).0 h))

-- a text ends with what begins that many bytes before its end
ends_with-starts_with : (x p : List ℕ) → starts_with nat_eq (drop (length x - length p) x) p ≡ ends_with nat_eq x p
ends_with-starts_with x p =
    let end = drop (length x - length p) x in
    ap (pointwise nat_eq p) (take_all (length p) end (omega (arith, length-drop (length x - length p) x)))

-- the first match is at the front exactly if the text begins with the pattern
pub finds_at_front : (x p : List ℕ) (r : Option ℕ) → MatchOption r (FindsText p x None) (MatchBeginsAt (FindsText p) x) → option_eq nat_eq r (Some 0) ≡ starts_with nat_eq x p
finds_at_front x p None lacks = sym (not_begun (starts_with nat_eq x p) refl)
  where
    not_begun : (b : Bool) → b ≡ starts_with nat_eq x p → b ≡ false
    not_begun true is = absurd (lacks 0 (omega arith) _ (starts_with-splits x p (sym is)))
    not_begun false is = refl
finds_at_front x p (Some i) found =
    both_ways (nat_eq i 0) (starts_with nat_eq x p)
    (λ front. (let zero : i ≡ 0 = eqb-true i 0 front in starts_with-from x p (drop found.0 x) (ap (λ k. drop k x) (sym zero) ∙ found.1.1.split)))
    (λ begun. elim (cases_lt 0 i) [
      | inl past ↦ absurd (found.1.0 0 past _ (starts_with-splits x p begun))
      | inr front ↦ eq-eqb i 0 (omega (arith, front))
    ])

-- a pattern at the end is found
pub finds_at_end : (x p : List ℕ) (r : Option ℕ) → MatchOption r (FindsText p x None) (MatchBeginsAt (FindsText p) x) → ends_with nat_eq x p ≡ true → is_some r ≡ true
finds_at_end x p None lacks ends =
    let start = length x - length p in
    absurd (lacks start (omega arith) _ (starts_with-splits (drop start x) p (ends_with-starts_with x p ∙ ends)))
finds_at_end x p (Some i) found ends = refl
