-- The slice of a cell up to an end that may be past its columns.
use Rattle.std.proofs.Common.{◌≡◌, ℕ, ◌-◌, ◌^◌, ◌<◌, ◌≤◌, ◌==◌, ◌↔◌, true, ◌&&◌, ◌||◌, List, length, nat_le, nat_lt, Option, Some, None, unwrap_or, if◌then◌else◌, IsTrue, refl, sym, ◌∙◌, ap, ap₂, subst, arith}
use Rattle.std.specs.Str.{IsUtf8}
use Rattle.std.proofs.lemmas.Bool.{le-leb}
use Rattle.std.proofs.lemmas.Bool.Decides.{nat_tests}
use Rattle.ansi_items.specs.Plain.{plain, is_whole}
use Rattle.ansi_items.proofs.PlainLemmas.{length-plain}
use Rattle.ansi_items.proofs.Utf8Lemmas.{IsUtf8-plain}
use Rattle.ansi_safe.specs.Cells.{cell}
use Rattle.ansi_safe.specs.Links.{pen_close, IsClosed}
use Rattle.ansi_safe.proofs.CellTextLemmas.{whole-cell, IsUtf8-cell, length-cell}
use Rattle.ansi_clusters.specs.Columns.{clusters, columns, columns_of}
use Rattle.ansi_cells.specs.Slices.{ended, has_no_column, column_place, bytes_from, bytes_up_to, blanks_before, blanks_after, opened_at, slice_blanks, sliced_blanks, sliced_up_to, sliced, is_pen_plain, is_stretch, is_sliced_stretch}
use Rattle.ansi_style.specs.Styled.{styled}
use Rattle.ansi_cells.specs.Addresses.{linked}
use Rattle.ansi_cells.specs.Screens.{screen, screen_slice, sliced_screen}
use Rattle.ansi_cells.proofs.ScreenLemmas.{length-screen_of}
use Rattle.ansi_cells.proofs.SliceScreenLemmas.{slice-screen}
use Rattle.ansi_cells.proofs.EdgeLemmas.{begun-within, columns-bound}
use Rattle.ansi_cells.proofs.SliceLemmas.{sliced-top, blanks-top}
use Rattle.ansi_cells.proofs.SliceLawLemmas.{sliced-whole, sliced-closed}
use Rattle.ansi_cells.proofs.OneLineLemmas.{IsClean}
use Rattle.ansi_cells.proofs.CleanShownLemmas.{clean-sliced_cell}

stretch-past : (t : List ℕ) (a b : ℕ) → columns (plain t) ≤ b → is_stretch t a b ≡ is_stretch t a (columns (plain t))
stretch-past t a b past =
    let x = plain t in
    let n = columns x in
    let within = begun-within a (clusters x) in
    let here : nat_le n b ≡ true = le-leb n b past in
    let there : nat_le n n ≡ true = le-leb n n (omega arith) in
    let nothing : has_no_column x a b ≡ has_no_column x a n = grind (arith, nat_tests) in
    let blanks_before_are : blanks_before x a b ≡ blanks_before x a n = grind (arith, within) in
    let place : bytes_up_to x b ≡ bytes_up_to x n
    = ap (λ c. if c then length x else column_place x b) here ∙ sym (ap (λ c. if c then length x else column_place x n) there) in
    let blanks_after_are : blanks_after x a b ≡ blanks_after x a n
    = ap (λ c. if c || nat_lt (column_place x b) (bytes_from x a) then 0 else b - columns_of (ended b (clusters x))) here
    ∙ sym (ap (λ c. if c || nat_lt (column_place x n) (bytes_from x a) then 0 else n - columns_of (ended n (clusters x))) there) in
    ap₂ (λ c d. c || d) nothing (ap₂ (λ c e. c && length (pen_close t e) == 0) (ap₂ (λ i j. is_pen_plain t (opened_at x a) && i == 0 && j == 0) blanks_before_are blanks_after_are) place)

stretch-top : (t : List ℕ) (a top : ℕ) (end : Option ℕ) → columns (plain t) ≤ top → is_stretch t a (unwrap_or end top) ≡ is_sliced_stretch t a end
stretch-top t a top (Some b) past = refl
stretch-top t a top None past = stretch-past t a top past

abbrev top : ℕ
top = 18446744073709551615

-- u is the cell of t, and b is `end`, or past every column
pub record IsCellUpTo (t : List ℕ) (end : Option ℕ) (u : List ℕ) (b : ℕ) : Type 0 where
  pub utf8 : IsUtf8 t
  pub size : length t < 2 ^ 63
  pub text : u ≡ cell t
  pub up_to : b ≡ unwrap_or end top

module _ {t : List ℕ} {end : Option ℕ} {u : List ℕ} {b : ℕ} (a : ℕ) (cut : IsCellUpTo t end u b) where
  within : columns (plain u) ≤ top
  within =
      let utf8 : IsUtf8 u = subst IsUtf8 (sym cut.text) (IsUtf8-cell t cut.utf8) in
      omega (arith, cut.size, ap length cut.text, length-cell t cut.utf8, length-plain u, columns-bound (plain u) (IsUtf8-plain u utf8))

  pub cell-sliced : sliced_up_to u a b ≡ sliced (cell t) a end
  cell-sliced = ap (sliced_up_to u a) cut.up_to ∙ sliced-top u a top end within ∙ ap (λ v. sliced v a end) cut.text

  pub cell-blanks : slice_blanks (plain u) a b ≡ sliced_blanks (cell t) a end
  cell-blanks = ap (slice_blanks (plain u) a) cut.up_to ∙ blanks-top (plain u) a top end within ∙ ap (λ v. sliced_blanks v a end) cut.text

  pub cell-stretch : cell t ≡ t → is_stretch u a b ≡ is_sliced_stretch t a end
  cell-stretch stays = ap (is_stretch u a) cut.up_to ∙ stretch-top u a top end within ∙ ap (λ v. is_sliced_stretch v a end) (cut.text ∙ stays)

  pub cell-borrowed : {borrowed : Type 0} → cell t ≡ t → (borrowed ↔ IsTrue (is_stretch u a b)) → borrowed ↔ ((cell t ≡ t) × IsTrue (is_sliced_stretch t a end))
  cell-borrowed stays iff = (λ is. (stays, subst IsTrue (cell-stretch stays) (iff.0 is)), λ all. iff.1 (subst IsTrue (sym (cell-stretch stays)) all.1))

-- what a slice of a cell is, whatever is written of it
module _ (t : List ℕ) (a : ℕ) (end : Option ℕ) (utf8 : IsUtf8 t) (w : List ℕ) (same : w ≡ sliced (cell t) a end) where
  abbrev upper : ℕ
  upper = unwrap_or end (columns (plain (cell t)))

  pub cell-whole : IsTrue (is_whole w)
  cell-whole = subst (λ v. IsTrue (is_whole v)) (sym same) (sliced-whole (cell t) a upper (IsUtf8-cell t utf8) (whole-cell t utf8))

  pub cell-closed : IsClosed w
  cell-closed = subst IsClosed (sym same) (sliced-closed (cell t) a upper (IsUtf8-cell t utf8) (whole-cell t utf8))

  -- it is safe and on one line
  pub cell-clean : IsClean w
  cell-clean = subst IsClean (sym same) (clean-sliced_cell t a upper utf8)

  pub cell-screen : screen w ≡ sliced_screen a end (screen (cell t))
  cell-screen =
      ap screen same
      ∙ slice-screen (cell t) a upper (IsUtf8-cell t utf8) (whole-cell t utf8)
      ∙ ap (λ n. screen_slice a (unwrap_or end n) (screen (cell t))) (sym (length-screen_of (clusters (plain (cell t))) (styled (cell t)) (linked (cell t))))
