-- The texts between the first matches of a pattern are those that std's `split` gives.
use Rattle.ansi_split.proofs.Common.{◌≡◌, ◌≢◌, ℕ, ◌+◌, ◌-◌, ◌<◌, ◌≤◌, Bool, true, false, List, [], ◌∷◌, ◌++◌, take, drop, length, Some, None, refl, sym, ◌∙◌, ap, ap₂, subst, arith, slice_index, slice_range, length-take, true≢false, cases_order, drop-drop, get_or-drop, take_all, IsUtf8, IsCharBoundary, FindsText, LacksTextAt, HasTextAt, IsSplitAtFirstMatch, parts, GoesOn, AreSplit, AreBetween, slices_over}
use Rattle.std.proofs.Common.{length-drop}
use Rattle.ansi_split.proofs.BetweenLemmas.{length-nonempty, parts_are_between}

-- the last text, with no match
AreSplit-last : (x p : List ℕ) (e : ℕ) (i : ℕ × ℕ) → AreBetween x p e (i ∷ []) → AreSplit p (drop e x) (slices_over x (i ∷ []))
AreSplit-last x p e i last = grind (arith, drop-drop, length-drop, take_all)

-- a text up to a match, and those after it
AreSplit-more : (x p : List ℕ) (e : ℕ) (i : ℕ × ℕ) (ys : List (List ℕ)) → i.0 ≡ e → e ≤ i.1 → HasTextAt p x i.1 (i.1 + length p) → ((k : ℕ) → e ≤ k → k < i.1 → LacksTextAt p x k)
    → AreSplit p (drop (i.1 + length p) x) ys → AreSplit p (drop e x) (slice_range x i.0 i.1 ∷ ys)
AreSplit-more x p e i ys begins from stands none more =
    let w = drop e x in
    let at = i.1 - e in
    let place : e + at ≡ i.1 = omega (arith, from) in
    let end : e + (at + length p) ≡ i.1 + length p = omega (arith, from) in
    let here : drop at w ≡ drop i.1 x = drop-drop at e x ∙ ap (λ n. drop n x) place in
    let after : drop (at + length p) w ≡ drop (i.1 + length p) x = drop-drop (at + length p) e x ∙ ap (λ n. drop n x) end in
    let part : slice_range x i.0 i.1 ≡ take at w = ap (λ n. slice_range x n i.1) begins in
    let inside : i.1 + length p ≤ length x = stands.after.0 in
    let boundary : IsCharBoundary w (at + length p)
    = (
      omega (arith, inside, from, length-drop e x),
      λ below high. (
          let index : slice_index w (at + length p) ≡ slice_index x (i.1 + length p) = get_or-drop e x (at + length p) 0 ∙ ap (slice_index x) end in
          let lead = stands.after.1 (omega (arith, below, from, length-drop e x)) (omega (arith, high, index)) in
          omega (arith, lead, index)),
    ) in
    let found : HasTextAt p w at (at + length p) = record { split = here ∙ stands.split ∙ ap (λ v. p ++ v) (sym after); ends = refl; after = boundary } in
    let none_before : (k : ℕ) → k < at → LacksTextAt p w k = λ k below rest there. none (e + k) (omega arith) (omega (arith, below, from)) rest (sym (drop-drop k e x) ∙ there) in
    let len : length (slice_range x i.0 i.1) + length (drop (i.1 + length p) x) ≤ length w
    = omega (arith, ap length part, length-take at w, length-drop e x, length-drop (i.1 + length p) x, from, inside) in
    (true, drop (i.1 + length p) x, (len, (Some (at, at + length p), (none_before, found), λ on. (part, refl, sym after))), more)

AreSplit-between : (x p : List ℕ) (e : ℕ) (is : List (ℕ × ℕ)) → AreBetween x p e is → AreSplit p (drop e x) (slices_over x is)
AreSplit-between x p e [] are = absurd are
AreSplit-between x p e (i ∷ []) are = AreSplit-last x p e i are
AreSplit-between x p e (i ∷ j ∷ is) are =
    AreSplit-more x p e i (slices_over x (j ∷ is)) are.0 are.1 are.2 are.3 (AreSplit-between x p (i.1 + length p) (j ∷ is) are.4)

pub parts_are_split : (x p : List ℕ) → IsUtf8 x → IsUtf8 p → p ≢ [] → AreSplit p x (slices_over x (parts x p))
parts_are_split x p utf8 utf8_p some = AreSplit-between x p 0 (parts x p) (parts_are_between x p utf8 utf8_p some)

-- Each step of a split, and so the whole of it, is determined.

no_find : (p x : List ℕ) (q : ℕ × ℕ) → FindsText p x None → FindsText p x (Some q) → ⊥
no_find p x q none found = (let end : q.0 + length p ≤ length x = found.1.after.0 in none q.0 (omega (arith, end)) (drop q.1 x) found.1.split)

no_earlier_find : (p x : List ℕ) (q r : ℕ × ℕ) → FindsText p x (Some q) → FindsText p x (Some r) → q.0 < r.0 → ⊥
no_earlier_find p x q r found later before = later.0 q.0 before (drop q.1 x) found.1.split

step_is_one : (p x y z rest left : List ℕ) (more go : Bool) → p ≢ [] → IsSplitAtFirstMatch (FindsText p) x y more rest → IsSplitAtFirstMatch (FindsText p) x z go left
    → (y ≡ z) × (more ≡ go) × (go ≡ true → rest ≡ left)
step_is_one p x y z rest left more go some first second = grind (arith, cases_order, length-nonempty, no_earlier_find, no_find, true≢false)

pub split_is_one : (p x : List ℕ) (ys zs : List (List ℕ)) → p ≢ [] → AreSplit p x ys → AreSplit p x zs → ys ≡ zs
split_is_one p x [] zs some first second = absurd first
split_is_one p x (y ∷ ys) [] some first second = absurd second
split_is_one p x (y ∷ ys) (z ∷ zs) some first second =
    let step = step_is_one p x y z first.1 second.1 first.0 second.0 some first.2 second.2 in
    ap₂ (λ v vs. v ∷ vs) step.0 (by_found (split_is_one p second.1 ys zs some) first.0 second.0 step.1 step.2 first.3 second.3)
  where
    by_found : (AreSplit p second.1 ys → AreSplit p second.1 zs → ys ≡ zs) → (more go : Bool) → more ≡ go → (go ≡ true → first.1 ≡ second.1) → GoesOn more (AreSplit p first.1 ys) ys → GoesOn go (AreSplit p second.1 zs) zs → ys ≡ zs
    by_found later true true same rest a b = later (subst (λ w. AreSplit p w ys) (rest refl) a) b
    by_found later true false same rest a b = absurd (true≢false same)
    by_found later false true same rest a b = absurd (true≢false (sym same))
    by_found later false false same rest a b = a ∙ sym b
