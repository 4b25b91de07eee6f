-- The width of the text of a table's cell: it has exactly the columns that are asked for.
use Rattle.std.proofs.Common.{◌≡◌, ℕ, ◌+◌, ◌-◌, Bool, true, false, List, [], length, take, if◌then◌else◌, IsTrue, refl, sym, ◌∙◌, ap, subst, arith}
use Rattle.std.specs.List.{list_all}
use Rattle.std.specs.Str.{IsUtf8}
use Rattle.std.proofs.lemmas.Bool.{and_from}
use Rattle.std.proofs.lemmas.List.Folds.{list_all-append}
use Rattle.std.proofs.lemmas.Str.{IsUtf8-nil, IsUtf8-take, IsUtf8-append}
use Rattle.ansi_items.specs.Plain.{plain, is_whole}
use Rattle.ansi_items.proofs.Utf8Lemmas.{IsUtf8-plain}
use Rattle.ansi_search.proofs.SliceLemmas.{list_all-parts}
use Rattle.ansi_cells.specs.declared.shown.Alignment.{Alignment}
use Rattle.ansi_clusters.specs.Columns.{columns, IsClusterBoundary}
use Rattle.ansi_cells.specs.Fitted.{fitted}
use Rattle.ansi_cells.specs.Shown.{has_tail, truncated_end, truncated, missing, before_text}
use Rattle.ansi_clusters.proofs.AsciiLemmas.{is_printable}
use Rattle.ansi_cells.proofs.LinkedLawLemmas.{truncated-whole, truncated-plain}
use Rattle.ansi_cells.proofs.ShownLawLemmas.{end_boundary, truncated-columns, truncated-within, padded-columns, padded-fills-plain}

list_all-tail : (b : Bool) (tail : List ℕ) → list_all is_printable tail ≡ true → list_all is_printable (if b then tail else []) ≡ true
list_all-tail true tail all = all
list_all-tail false tail all = refl

IsUtf8-tail : (b : Bool) (tail : List ℕ) → IsUtf8 tail → IsUtf8 (if b then tail else [])
IsUtf8-tail true tail utf8 = utf8
IsUtf8-tail false tail utf8 = IsUtf8-nil

module _ (t : List ℕ) (width : ℕ) (alignment : Alignment) (tail : List ℕ) (whole : IsTrue (is_whole t)) (tail_whole : IsTrue (is_whole tail)) where
  abbrev cut : List ℕ
  cut = truncated t width tail

  abbrev end : ℕ
  end = truncated_end t width tail

  cut_whole : IsTrue (is_whole cut)
  cut_whole = truncated-whole t width tail whole tail_whole

  cut_printable : list_all is_printable (plain t) ≡ true → list_all is_printable (plain tail) ≡ true → list_all is_printable (plain cut) ≡ true
  cut_printable printable tail_printable =
      let last = if has_tail t width tail then plain tail else [] in
      ap (list_all is_printable) (truncated-plain t width tail whole tail_whole)
      ∙ list_all-append is_printable (take end (plain t)) last
      ∙ and_from _ _ (list_all-parts is_printable end (plain t) printable).0 (list_all-tail (has_tail t width tail) (plain tail) tail_printable)

  pub fitted-columns : list_all is_printable (plain t) ≡ true → list_all is_printable (plain tail) ≡ true → columns (plain (fitted t width alignment tail)) ≡ width
  fitted-columns printable tail_printable =
      omega (
        arith,
        padded-columns cut width alignment (cut_printable printable tail_printable) cut_whole,
        truncated-columns t width tail printable tail_printable whole tail_whole,
      )

  cut_utf8 : IsUtf8 t → IsUtf8 tail → IsUtf8 (plain cut)
  cut_utf8 utf8 tail_utf8 =
      let x_utf8 = IsUtf8-plain t utf8 in
      let room = if has_tail t width tail then width - columns (plain tail) else width in
      let last = if has_tail t width tail then plain tail else [] in
      subst IsUtf8 (sym (truncated-plain t width tail whole tail_whole))
      (IsUtf8-append (take end (plain t)) last (IsUtf8-take (plain t) end x_utf8 (end_boundary (plain t) [] x_utf8 IsUtf8-nil room))
      (IsUtf8-tail (has_tail t width tail) (plain tail) (IsUtf8-plain tail tail_utf8)))

  pub fitted-fills : IsUtf8 t → IsUtf8 tail → IsClusterBoundary (plain cut) end
      → IsClusterBoundary (plain (fitted t width alignment tail)) (before_text alignment (missing cut width))
      → IsClusterBoundary (plain (fitted t width alignment tail)) (before_text alignment (missing cut width) + length (plain cut))
      → columns (plain (fitted t width alignment tail)) ≡ width
  fitted-fills utf8 tail_utf8 at begin last =
      omega (
        arith,
        padded-fills-plain cut width alignment (cut_utf8 utf8 tail_utf8) cut_whole begin last,
        truncated-within t width tail utf8 tail_utf8 whole tail_whole at,
      )
