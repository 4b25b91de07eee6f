-- A pattern at the front and at the end of a text.
use Rattle.ansi_search.proofs.Common.{◌≡◌, ℕ, ◌+◌, ◌-◌, ◌≤◌, IsTrue, true, ◌&&◌, List, ◌∷◌, ◌++◌, length, take, drop, nat_eq, refl, sym, ◌∙◌, ap, ap₂, subst, arith, and_assoc, nat_eq_equiv, take-append-le, take_all, drop-drop, length-drop, length-take, IsCharBoundary-from_take, IsCharBoundary-from_drop, pointwise, same_text, starts_with, ends_with, IsUtf8, IsCharBoundary, pieces_of, plain, no_character_goes_on, is_good_position, StandsIn, [], Bool, false, true≢false, IsFalse}
use Rattle.ansi_search.proofs.PositionLemmas.{no_character_goes_on-boundary, is_good_position-from}
use Rattle.ansi_search.proofs.OffsetLemmas.{IsPassed, StandsIn-after, plain-after}
use Rattle.ansi_search.specs.Offsets.{IsEnd}

-- a pattern that is no longer than the text at the front is in that text
pub starts_with-within : (p w y : List ℕ) → length p ≤ length w → starts_with nat_eq (w ++ y) p ≡ starts_with nat_eq w p
starts_with-within p w y fits = ap (pointwise nat_eq p) (take-append-le (length p) w y fits)

-- one that is no shorter begins with that text, and goes on after it
pub starts_with-across : (p w y : List ℕ) → length w ≤ length p → starts_with nat_eq (w ++ y) p ≡ (starts_with nat_eq p w && starts_with nat_eq y (drop (length w) p))
starts_with-across p [] y fits = refl
starts_with-across [] (b ∷ w) y fits = absurd (omega arith)
starts_with-across (c ∷ p) (b ∷ w) y fits =
    ap₂ (λ s t. s && t) (nat_eq_equiv.symm c b) (starts_with-across p w y (omega arith))
    ∙ sym (and_assoc (nat_eq b c) (starts_with nat_eq p w) (starts_with nat_eq y (drop (length w) p)))

-- a text ends with what begins that many bytes before its end
pub ends_with-starts_with : (x p : List ℕ) → starts_with nat_eq (drop (length x - length p) x) p ≡ ends_with nat_eq x p
ends_with-starts_with x p = grind (arith, length-drop, take_all)

-- A text may be cut after what it begins with, and before what it ends with.

pub starts_with-boundary : (x p : List ℕ) → IsUtf8 x → IsUtf8 p → starts_with nat_eq x p ≡ true → IsCharBoundary x (length p)
starts_with-boundary x p utf8 prefix_utf8 starts =
    let same : p ≡ take (length p) x = same_text p (take (length p) x) (sym starts) in
    let fits : length p ≤ length x = omega (arith, ap length same, length-take (length p) x) in
    IsCharBoundary-from_take x (length p) utf8 fits (subst IsUtf8 same prefix_utf8)

pub ends_with-boundary : (x p : List ℕ) → IsUtf8 p → ends_with nat_eq x p ≡ true → IsCharBoundary x (length x - length p)
ends_with-boundary x p suffix_utf8 ends =
    let start = length x - length p in
    let same : p ≡ drop start x = same_text p (drop start x) (sym ends) in
    IsCharBoundary-from_drop x start (omega arith) (subst IsUtf8 same suffix_utf8)

-- In an end of t, what follows a place is how t ends, if it has that many bytes from there on.
module _ (t rest p : List ℕ) (start place : ℕ) (end : IsEnd t start) (is : rest ≡ drop start t) (size : place + length p ≡ length (plain (drop start t))) where
  there : end.before + place ≡ length (plain t) - length p
  there = omega (arith, size, end.count)

  end-starts : starts_with nat_eq (drop place (plain rest)) p ≡ ends_with nat_eq (plain t) p
  end-starts =
      ap (λ x. starts_with nat_eq (drop place x) p) (ap plain is ∙ sym end.rest)
      ∙ ap (λ x. starts_with nat_eq x p) (drop-drop place end.before (plain t) ∙ ap (λ k. drop k (plain t)) there) ∙ ends_with-starts_with (plain t) p

  end-good : IsUtf8 p → starts_with nat_eq (drop place (plain rest)) p ≡ true → IsTrue (no_character_goes_on (plain rest) place)
  end-good utf8 starts =
      let last : place ≡ length (plain rest) - length p = omega (arith, size, ap (λ u. length (plain u)) is) in
      let ends : ends_with nat_eq (plain rest) p ≡ true = sym (ends_with-starts_with (plain rest) p) ∙ ap (λ n. starts_with nat_eq (drop n (plain rest)) p) (sym last) ∙ starts in
      ap (no_character_goes_on (plain rest)) last ∙ no_character_goes_on-boundary (plain rest) (length (plain rest) - length p) (ends_with-boundary (plain rest) p utf8 ends)

  pub end-stands : {i : ℕ} → StandsIn rest place i → StandsIn t (length (plain t) - length p) (start + i)
  end-stands {i} stands =
      let way : IsPassed t end.before start (pieces_of rest) = subst (λ u. IsPassed t end.before start (pieces_of u)) (sym is) (record { count = end.count; rest = end.rest; offset = end.offset }) in
      subst (λ k. StandsIn t k (start + i)) there (StandsIn-after way is end.boundary.0 stands)

  pub end-matches : {i : ℕ} → StandsIn rest place i → starts_with nat_eq (plain (drop (start + i) t)) p ≡ ends_with nat_eq (plain t) p
  end-matches {i} stands =
      let n = length (plain t) - length p in
      ap (λ x. starts_with nat_eq x p) (ap (λ k. plain (drop k t)) (end-stands stands).offset ∙ plain-after t n) ∙ ends_with-starts_with (plain t) p

  -- no pattern begins inside a character
  pub end-inside : IsUtf8 p → IsFalse (is_good_position (plain rest) place) → IsFalse (ends_with nat_eq (plain t) p)
  end-inside utf8 inside = read (ends_with nat_eq (plain t) p) refl
    where
      read : (b : Bool) → ends_with nat_eq (plain t) p ≡ b → ends_with nat_eq (plain t) p ≡ false
      read true is = absurd (true≢false (sym (is_good_position-from (plain rest) place (end-good utf8 (end-starts ∙ is))) ∙ inside))
      read false is = is
