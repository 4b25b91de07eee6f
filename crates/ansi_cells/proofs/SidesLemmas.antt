-- What is written of a text that is truncated at its start or in its middle, and how long it is.
use Rattle.std.proofs.Common.{◌≡◌, ℕ, ◌-◌, ◌≤◌, min, Bool, true, false, ◌||◌, List, ◌++◌, nat_le, nat_lt, if◌then◌else◌, ◌∙◌, ap, ap₂, arith}
use Rattle.std.proofs.lemmas.Bool.{le-leb}
use Rattle.ansi_items.specs.Plain.{plain}
use Rattle.ansi_cells.specs.declared.sides.Side.{Side}
use Rattle.ansi_clusters.specs.Columns.{clusters, columns, columns_of}
use Rattle.ansi_cells.specs.Shown.{truncated}
use Rattle.ansi_cells.specs.Sides.{fitting_tail, beside_tail, before_tail, is_cut_at_end, cut_before_end, truncated_at}
use Rattle.ansi_cells.specs.Slices.{ended, bytes_from, column_place, blanks_before, blanks_after, slice_blanks, sliced_up_to}
use Rattle.ansi_cells.proofs.EdgeLemmas.{begun-zero}

module _ (side : Side) (t : List ℕ) (width : ℕ) (tail : List ℕ) where
  pub truncated-at_end : is_cut_at_end side t width ≡ true → truncated_at side t width tail ≡ truncated t width tail
  unfolding truncated_at
  truncated-at_end is = ap (λ b. if b then truncated t width tail else cut_before_end side t width tail) is

  pub truncated-before_end : is_cut_at_end side t width ≡ false → truncated_at side t width tail ≡ cut_before_end side t width tail
  unfolding truncated_at
  truncated-before_end is = ap (λ b. if b then truncated t width tail else cut_before_end side t width tail) is

  pub cut-written : {between out : List ℕ} {room first all : ℕ} → between ≡ fitting_tail width tail → room ≡ beside_tail width tail → first ≡ before_tail side room → all ≡ columns (plain t)
      → out ≡ (sliced_up_to t 0 first ++ between) ++ sliced_up_to t (all - (room - first)) all → out ≡ cut_before_end side t width tail
  cut-written between_is room_is first_is all_is written =
      let first_there = first_is ∙ ap (before_tail side) room_is in
      written ∙ ap₂ (λ u v. u ++ v)
      (ap₂ (λ f b. sliced_up_to t 0 f ++ b) first_there between_is)
      (ap₂ (λ a n. sliced_up_to t a n) (ap₂ (λ n l. n - l) all_is (ap₂ (λ r f. r - f) room_is first_there)) all_is)

-- blanks stand only for columns of the slice

nothing-before : (x : List ℕ) (b : ℕ) → blanks_before x 0 b ≡ 0
nothing-before x b = ap (λ ks. min (columns_of ks) b - 0) (begun-zero (clusters x)) ∙ omega arith

after-within : (x : List ℕ) (a b : ℕ) → blanks_after x a b ≤ b
after-within x a b = either (nat_le (columns x) b || nat_lt (column_place x b) (bytes_from x a))
  where
    either : (c : Bool) → (if c then 0 else b - columns_of (ended b (clusters x))) ≤ b
    either true = omega arith
    either false = omega arith

nothing-after : (x : List ℕ) (a b : ℕ) → columns x ≤ b → blanks_after x a b ≡ 0
nothing-after x a b all =
    ap (λ c. if c || nat_lt (column_place x b) (bytes_from x a) then 0 else b - columns_of (ended b (clusters x))) (le-leb (columns x) b all)

pub front-blanks : (x : List ℕ) (b : ℕ) → slice_blanks x 0 b ≤ b
front-blanks x b = omega (arith, nothing-before x b, after-within x 0 b)

pub back-blanks : (x : List ℕ) (last b : ℕ) → b ≡ columns x → slice_blanks x (b - last) b ≤ last
back-blanks x last b is = omega (arith, nothing-after x (b - last) b (omega (arith, is)))
