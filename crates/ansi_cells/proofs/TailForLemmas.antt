-- A tail that isn't written may be empty instead: nothing that a cut makes depends on it.
use Rattle.std.proofs.Common.{◌≡◌, ◌↔◌, ℕ, ◌-◌, ◌≤◌, Bool, true, false, not, ◌&&◌, List, [], ◌++◌, length, chars, nat_le, if◌then◌else◌, IsTrue, IsFalse, refl, sym, ◌∙◌, ap, ap₂, subst, inl, inr, arith}
use Rattle.std.specs.Prelude.{◌⊎◌}
use Rattle.ansi_items.specs.Plain.{plain, marks, marks_up_to}
use Rattle.ansi_slice.specs.Cut.{interleaved}
use Rattle.ansi_safe.specs.Cells.{cell}
use Rattle.ansi_safe.specs.Links.{pen_close}
use Rattle.ansi_safe.proofs.EndingLemmas.{append-both_nil}
use Rattle.ansi_clusters.specs.Columns.{clusters, columns, fitting_end}
use Rattle.ansi_clusters.proofs.AsciiLemmas.{columns-printable}
use Rattle.ansi_cells.specs.declared.sides.Side.{Side}
use Rattle.ansi_cells.specs.declared.sides.Side.TheVariants.{End, Start, Middle}
use Rattle.ansi_cells.specs.Shown.{has_tail, truncated_width, truncated_end, truncated_ending, truncated, shown_end, KeptStays, closing, closed_cell, IsTailFor}
use Rattle.ansi_cells.specs.Sides.{fitting_tail, before_tail, first_and_last, cut_before_end, truncated_at}
use Rattle.ansi_cells.specs.Rows.{row_bytes}
use Rattle.ansi_cells.proofs.RowLemmas.{bytes-row, row-closed_cell}
use Rattle.ansi_cells.proofs.TailLemmas.{closing-bare}
use Rattle.std.specs.Str.{IsUtf8}

-- a cut with the tail x has the same room, and the same after it, as with the tail y
pub record IsSameCut (t : List ℕ) (width : ℕ) (x y : List ℕ) : Type 0 where
  pub room : truncated_width t width x ≡ truncated_width t width y
  pub written : (if has_tail t width x then x else []) ≡ (if has_tail t width y then y else [])
  pub between : nat_le (columns (plain t)) width ≡ false → fitting_tail width x ≡ fitting_tail width y
  pub len : length x ≤ length y

either-same : (b : Bool) (x : List ℕ) → (if b then x else x) ≡ x
either-same true x = refl
either-same false x = refl

either-width : (b : Bool) (width n : ℕ) → n ≡ 0 → (if b then width - n else width) ≡ width
either-width true width n none = omega arith
either-width false width n none = refl

same-empty : (t tail : List ℕ) (width : ℕ) → has_tail t width tail ≡ false → IsSameCut t width [] tail
same-empty t tail width none = record {
  room = either-width (has_tail t width []) width (columns (plain [])) (columns-printable [] refl) ∙ sym (ap (λ b. if b then width - columns (plain tail) else width) none);
  written = either-same (has_tail t width []) [] ∙ sym (ap (λ b. if b then tail else []) none);
  between = λ wide. either-same (nat_le (columns (plain [])) width) [] ∙ sym (ap (λ b. if b then tail else []) (sym (ap (λ b. not b && nat_le (columns (plain tail)) width) wide) ∙ none));
  len = omega arith;
}

same-tail : (t : List ℕ) (width : ℕ) {x y : List ℕ} → x ≡ y → IsSameCut t width x y
same-tail t width is = record {
  room = ap (truncated_width t width) is;
  written = ap (λ u. if has_tail t width u then u else []) is;
  between = λ _. ap (fitting_tail width) is;
  len = omega (arith, ap length is);
}

pub same-cut : {t x y tail : List ℕ} {width : ℕ} → x ≡ y → IsTailFor t width tail y → IsSameCut t width x tail
same-cut {t} {x} {y} {tail} {width} is for = by for
  where
    by : (y ≡ tail) ⊎ ((y ≡ []) × IsFalse (has_tail t width tail)) → IsSameCut t width x tail
    by (inl same) = same-tail t width (is ∙ same)
    by (inr none) = subst (λ u. IsSameCut t width u tail) (sym (is ∙ none.0)) (same-empty t tail width none.1)

-- so a truncated text is the same

pub truncated-same : {t x y : List ℕ} {width : ℕ} → IsSameCut t width x y → truncated t width x ≡ truncated t width y
unfolding truncated
truncated-same {t} same =
    ap₂ (λ n after. let end = fitting_end n (clusters (plain t)) in interleaved (plain t) 0 end (marks_up_to end (marks t)) ++ (pen_close t end ++ after)) same.room same.written

pub ending-same : {t x y : List ℕ} {width : ℕ} → IsSameCut t width x y → truncated_ending t width x ≡ truncated_ending t width y
ending-same {t} same = ap₂ (λ n after. pen_close t (fitting_end n (clusters (plain t))) ++ after) same.room same.written

pub stays-same : {x y : List ℕ} {width : ℕ} (t : List ℕ) → IsSameCut (cell t) width x y → KeptStays t width x ↔ KeptStays t width y
unfolding KeptStays
stays-same t same =
    let kept_to : ℕ → List ℕ = λ n. let end = shown_end (fitting_end n (clusters (plain (cell t)))) (chars (plain t)) in interleaved (plain t) 0 end (marks_up_to end (marks t)) in
    let P : ℕ → Type 0 = λ n. cell (kept_to n) ≡ kept_to n in
    (λ stays. subst P same.room stays, λ stays. subst P (sym same.room) stays)

before_end-same : (side : Side) (t x y : List ℕ) (width : ℕ) → fitting_tail width x ≡ fitting_tail width y → cut_before_end side t width x ≡ cut_before_end side t width y
before_end-same side t x y width is =
    ap (λ tail. let room = width - columns (plain tail) in first_and_last t (before_tail side room) tail (room - before_tail side room)) is

-- at a side too
pub truncated_at-same : {t x y : List ℕ} {width : ℕ} (side : Side) → IsSameCut t width x y → truncated_at side t width x ≡ truncated_at side t width y
unfolding truncated_at
truncated_at-same {t} {x} {y} {width} End same = truncated-same same
truncated_at-same {t} {x} {y} {width} Start same = by (nat_le (columns (plain t)) width) refl
  where
    by : (b : Bool) → nat_le (columns (plain t)) width ≡ b → (if b then truncated t width x else cut_before_end Start t width x) ≡ (if b then truncated t width y else cut_before_end Start t width y)
    by true fits = truncated-same same
    by false wide = before_end-same Start t x y width (same.between wide)
truncated_at-same {t} {x} {y} {width} Middle same = by (nat_le (columns (plain t)) width) refl
  where
    by : (b : Bool) → nat_le (columns (plain t)) width ≡ b → (if b then truncated t width x else cut_before_end Middle t width x) ≡ (if b then truncated t width y else cut_before_end Middle t width y)
    by true fits = truncated-same same
    by false wide = before_end-same Middle t x y width (same.between wide)

-- if nothing is written after the cut, a tail that is written is empty
pub tail-none : (t tail : List ℕ) (width : ℕ) → truncated_ending t width tail ≡ [] → IsTrue (has_tail t width tail) → tail ≡ []
tail-none t tail width none there =
    sym (ap (λ b. if b then tail else []) there) ∙ (append-both_nil (pen_close t (truncated_end t width tail)) (if has_tail t width tail then tail else []) none).1

-- a cell of nothing is closed
pub closed_cell-none : (t : List ℕ) → cell t ≡ [] → closed_cell t ≡ []
closed_cell-none t none = ap (λ u. u ++ closing u) none ∙ closing-bare [] refl

-- the columns of a tail are those of its cell, and so is its test
pub has_tail-seen : (t tail : List ℕ) (width : ℕ) → IsUtf8 tail → has_tail t width (closed_cell tail) ≡ not (nat_le (columns (plain t)) width) && nat_le (columns (plain (cell tail))) width
has_tail-seen t tail width utf8 =
    let same : plain (closed_cell tail) ≡ plain (cell tail) = sym (bytes-row (closed_cell tail)) ∙ ap row_bytes (row-closed_cell tail utf8) ∙ bytes-row (cell tail) in
    ap (λ u. not (nat_le (columns (plain t)) width) && nat_le (columns u) width) same
