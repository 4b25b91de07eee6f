-- Padded, sliced and truncated texts of cells are safe and on one line.
use Rattle.std.proofs.Common.{◌≡◌, ℕ, ◌-◌, true, List, [], ◌++◌, length, nat_le, Option, Some, None, sym, subst}
use Rattle.std.specs.Str.{IsUtf8, IsCharBoundary}
use Rattle.std.proofs.lemmas.Bool.{cond_both}
use Rattle.std.proofs.lemmas.Str.{IsCharBoundary-end}
use Rattle.ansi_items.specs.Plain.{plain, marks}
use Rattle.ansi_items.proofs.Utf8Lemmas.{IsUtf8-plain}
use Rattle.ansi_style.specs.Styled.{style_at}
use Rattle.ansi_style.proofs.StyleLemmas.{IsStyle-style_at}
use Rattle.ansi_slice.specs.Cut.{interleaved}
use Rattle.ansi_split.proofs.PartSliceLemmas.{own_places, marks_past-places}
use Rattle.ansi_safe.specs.Cells.{cell}
use Rattle.ansi_safe.specs.Safe.{is_safe}
use Rattle.ansi_safe.specs.declared.policy.Links.TheVariants.{Keep}
use Rattle.ansi_safe.proofs.CellTextLemmas.{IsUtf8-cell}
use Rattle.ansi_cells.specs.declared.shown.Alignment.{Alignment}
use Rattle.ansi_clusters.specs.Columns.{clusters, columns}
use Rattle.ansi_cells.specs.Shown.{missing, before_text, padded}
use Rattle.ansi_cells.specs.Slices.{begun, ended, has_no_column, column_place, bytes_from, bytes_up_to, blanks_before, blanks_after, opened_at, pen_open, slice_opening, slice_middle, slice_closing, sliced_up_to}
use Rattle.ansi_cells.proofs.EdgeLemmas.{begun-front, ended-front}
use Rattle.ansi_clusters.proofs.LineLawLemmas.{boundary_between}
use Rattle.ansi_cells.proofs.OneLineLemmas.{Prints, Prints-slice, Prints-cell, IsClean, clean-nil, clean-append, clean-blanks, clean-start, clean-pen_close, clean-closed, clean-interleaved, clean-link_at, clean-cell, safe-cell}

-- a padded text

pub clean-padded : (t : List ℕ) (width : ℕ) (alignment : Alignment) → IsClean t → IsClean (padded t width alignment)
unfolding padded
clean-padded t width alignment is =
    let before = before_text alignment (missing t width) in
    clean-append (clean-append (clean-blanks before) (clean-closed t is)) (clean-blanks (missing t width - before))

-- a slice

module _ (t : List ℕ) (utf8 : IsUtf8 t) (safe : is_safe Keep t ≡ true) (prints : Prints (plain t)) (a b : ℕ) where
  abbrev x : List ℕ
  x = plain t

  abbrev to : ℕ
  to = bytes_up_to x b

  from_boundary : IsCharBoundary x (bytes_from x a)
  from_boundary = boundary_between x (IsUtf8-plain t utf8) (begun a (clusters x)) _ (begun-front a (clusters x))

  to_boundary : IsCharBoundary x to
  to_boundary =
      cond_both (nat_le (columns x) b) (length x) (column_place x b) (IsCharBoundary x) (λ all. IsCharBoundary-end x)
      (λ part. boundary_between x (IsUtf8-plain t utf8) (ended b (clusters x)) _ (ended-front b (clusters x)))

  clean-pen_open : (place : Option ℕ) → IsClean (pen_open t place)
  clean-pen_open None = clean-nil
  clean-pen_open (Some i) = clean-append (clean-start (style_at t i) (IsStyle-style_at t i)) (clean-link_at t i utf8 safe)

  clean-middle : IsClean (slice_middle t a b)
  clean-middle =
      subst (λ ms. IsClean (interleaved x (bytes_from x a) to ms)) (sym (marks_past-places (opened_at x a) to (marks t)))
      (clean-interleaved t (own_places (opened_at x a) to) (bytes_from x a) to utf8 safe from_boundary to_boundary (Prints-slice x (bytes_from x a) to prints from_boundary to_boundary))

  pub clean-sliced : IsClean (sliced_up_to t a b)
  unfolding sliced_up_to
  clean-sliced =
      cond_both (has_no_column x a b) [] (slice_opening t a b ++ slice_middle t a b ++ slice_closing t a b) IsClean (λ none. clean-nil)
      (λ some. clean-append (clean-append (clean-append (clean-pen_open (opened_at x a)) (clean-blanks (blanks_before x a b))) clean-middle) (clean-append (clean-blanks (blanks_after x a b)) (clean-pen_close t to)))

-- of the text of a cell

pub clean-padded_cell : (t : List ℕ) (width : ℕ) (alignment : Alignment) → IsUtf8 t → IsClean (padded (cell t) width alignment)
clean-padded_cell t width alignment utf8 = clean-padded (cell t) width alignment (clean-cell t utf8)

pub clean-sliced_cell : (t : List ℕ) (a b : ℕ) → IsUtf8 t → IsClean (sliced_up_to (cell t) a b)
clean-sliced_cell t a b utf8 = clean-sliced (cell t) (IsUtf8-cell t utf8) (safe-cell t utf8) (Prints-cell t utf8) a b
