-- A range of characters inside another, and the link after an item of one.
use Rattle.std.proofs.Common.{◌≡◌, ℕ, ◌+◌, ◌-◌, ◌≤◌, inl, inr, List, length, take, drop, slice_range, sym, ◌∙◌, ap, ap₂, arith}
use Rattle.std.specs.Str.{IsCharBoundary}
use Rattle.std.proofs.lemmas.Bool.{cases_lt}
use Rattle.std.proofs.lemmas.List.{length-take-le, get_or-take, drop-take, drop-drop, take-take, length-drop}
use Rattle.std.proofs.lemmas.Str.{IsCharBoundary-from_rest}
use Rattle.ansi_split.proofs.RestLemmas.{boundary-drop}
use Rattle.ansi_wraps.specs.WrapStates.{IsCharRange}

-- a boundary of the front of a text
boundary-take : (t : List ℕ) (n a : ℕ) → IsCharBoundary t n → IsCharBoundary (take n t) a → IsCharBoundary t a
boundary-take t n a end here =
    let size : length (take n t) ≡ n = length-take-le n t end.0 in (
      omega (arith, here.0, size, end.0),
      λ inside tail. elim (cases_lt a n) [
        | inl less ↦ (let same = get_or-take n t a 0 less in let so = here.1 (omega (arith, size, less)) (omega (arith, same, tail)) in omega (arith, same, so))
        | inr past ↦ (let is : a ≡ n = omega (arith, here.0, size, past) in rw is (end.1 (omega (arith, is, inside)) (rw (sym is) tail)))
      ],
    )

module _ {t : List ℕ} {start end a b : ℕ} (outer : IsCharRange t start end) (a_boundary : IsCharBoundary (slice_range t start end) a) (b_boundary : IsCharBoundary (slice_range t start end) b) (ordered : a ≤ b) where
  boundary : (i : ℕ) → IsCharBoundary (slice_range t start end) i → IsCharBoundary t (start + i)
  boundary i here =
      IsCharBoundary-from_rest t start i outer.start_boundary.0
      (boundary-take (drop start t) (end - start) i (boundary-drop t start end outer.ordered outer.end_boundary) here)

  pub range-inside : IsCharRange t (start + a) (start + b)
  range-inside = record { ordered = omega (arith, ordered); start_boundary = boundary a a_boundary; end_boundary = boundary b b_boundary }

  pub slice-inside : slice_range t (start + a) (start + b) ≡ slice_range (slice_range t start end) a b
  slice-inside =
      let d = drop start t in
      let n = end - start in
      let size : length (take n d) ≡ n = length-take-le n d (omega (arith, length-drop start t, outer.end_boundary.0)) in
      let count : (start + b) - (start + a) ≡ b - a = omega arith in
      let more : n ≡ a + (n - a) = omega (arith, size, b_boundary.0, ordered) in
      ap₂ (λ k x. take k x) count (sym (drop-drop a start t))
      ∙ sym (take-take (b - a) (n - a) (drop a d) (omega (arith, size, b_boundary.0)))
      ∙ ap (take (b - a)) (sym (drop-take a (n - a) d) ∙ ap (λ k. drop a (take k d)) (sym more))
