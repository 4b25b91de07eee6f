-- Edits of a text by columns: what each makes of it, what several make of it in turn, and what that shows.
use Rattle.std.specs.Prelude.{◌≡◌, ℕ, ◌+◌, ◌*◌, Bool, true, false, List, [], ◌∷◌, length, Option, map, fold, ⊤, IsTrue, IsFalse, if◌then◌else◌}
use Rattle.std.specs.List.{list_all}
use Rattle.std.specs.Str.{IsUtf8}
use Rattle.ansi_style.specs.Written.{longest_close, longest_start_and_close}
use Rattle.ansi_safe.specs.Cells.{cell}
use Rattle.ansi_safe.specs.Links.{longest_link_end}
use Rattle.ansi_columns.specs.declared.edits.ColumnEdit.{ColumnEdit}
use Rattle.ansi_columns.specs.declared.edits.ColumnEdit.TheVariants as edit
use Rattle.ansi_cells.specs.declared.shown.Alignment.{Alignment}
use Rattle.ansi_cells.specs.declared.sides.Side.{Side}
use Rattle.ansi_cells.specs.Fitted.{fitted}
use Rattle.ansi_cells.specs.Rows.{Row, cell_row, truncated_row_at, padded_row, fitted_row, sliced_row}
use Rattle.ansi_cells.specs.Shown.{truncated, truncated_ending, padded, missing, closing, closed_cell, KeptStays}
use Rattle.ansi_cells.specs.Sides.{is_cut_at_end, truncated_at}
use Rattle.ansi_cells.specs.Slices.{sliced, sliced_blanks, is_sliced_stretch}
use Rattle.ansi_cells.specs.Tabs.{has_tab, tabs, expanded}

-- an edit by columns, with its numbers and the bytes of its tail
pub data Change : Type 0 where
  Expanded : ℕ → Change
  Sliced : ℕ → Option ℕ → Change
  Truncated : Side → ℕ → List ℕ → Change
  Padded : ℕ → Alignment → Change
  Fitted : ℕ → Alignment → List ℕ → Change

-- an edit of the code is a change, in whatever memory its tail is
abbrev pub change_of : ColumnEdit → Change
change_of (edit.Expand stop) = Expanded stop
change_of (edit.Slice start end) = Sliced start end
change_of (edit.Truncate width tail side) = Truncated side width tail.now
change_of (edit.Pad width alignment) = Padded width alignment
change_of (edit.Fit width alignment tail) = Fitted width alignment tail.now

-- edits in turn are changes in turn
abbrev pub changes_of : List ColumnEdit → List Change
changes_of edits = map change_of edits

-- the tail of a change is UTF-8, as that of an edit is
abbrev pub HasUtf8Tail : Change → Type 0
HasUtf8Tail (Truncated side width tail) = IsUtf8 tail
HasUtf8Tail (Fitted width alignment tail) = IsUtf8 tail
HasUtf8Tail change = ⊤

-- TABs become blanks, and all else stays as it is, line ends too; any other change makes a text of a cell
abbrev pub is_expansion : Change → Bool
is_expansion (Expanded stop) = true
is_expansion change = false

-- what a change makes of the text t, as the call of its name does
abbrev pub changed : Change → List ℕ → List ℕ
changed (Expanded stop) t = expanded stop t
changed (Sliced start end) t = sliced (cell t) start end
changed (Truncated side width tail) t = truncated_at side (cell t) width (closed_cell tail)
changed (Padded width alignment) t = padded (cell t) width alignment
changed (Fitted width alignment tail) t = fitted (cell t) width alignment (closed_cell tail)

-- what changes make of it in turn
abbrev pub changed_in_turn : List Change → List ℕ → List ℕ
changed_in_turn changes t = fold (λ u change. changed change u) t changes

-- every change is an expansion, or there is none
abbrev pub only_expand : List Change → Bool
only_expand changes = list_all is_expansion changes

-- that text; if it was only expanded, it becomes the text of a cell, closed, which any other change makes by itself (own)
abbrev pub edited : List Change → List ℕ → List ℕ
edited changes t = if only_expand changes then closed_cell (changed_in_turn changes t) else changed_in_turn changes t

-- What an edited text shows, without a word of sequences.

-- what a change makes of a row, which has no TAB
abbrev pub changed_row : Change → Row → Row
changed_row (Expanded stop) r = r
changed_row (Sliced start end) r = sliced_row start end r
changed_row (Truncated side width tail) r = truncated_row_at side width (cell_row tail) r
changed_row (Padded width alignment) r = padded_row width alignment r
changed_row (Fitted width alignment tail) r = fitted_row width alignment (cell_row tail) r

-- what changes make of a row in turn
abbrev pub row_in_turn : List Change → Row → Row
row_in_turn changes r = fold (λ s change. changed_row change s) r changes

-- what changes make of what is shown of the text t; the expansions in front of the list find the TABs, which a row has as blanks (own)
abbrev pub edited_row : List Change → List ℕ → Row
edited_row [] t = cell_row t
edited_row (Expanded stop ∷ changes) t = edited_row changes (expanded stop t)
edited_row (Sliced start end ∷ changes) t = row_in_turn (Sliced start end ∷ changes) (cell_row t)
edited_row (Truncated side width tail ∷ changes) t = row_in_turn (Truncated side width tail ∷ changes) (cell_row t)
edited_row (Padded width alignment ∷ changes) t = row_in_turn (Padded width alignment ∷ changes) (cell_row t)
edited_row (Fitted width alignment tail ∷ changes) t = row_in_turn (Fitted width alignment tail ∷ changes) (cell_row t)

-- what a change makes of the text t is lent by it, a stretch of t
abbrev pub IsLent : Change → List ℕ → Type 0
IsLent (Expanded stop) t = IsFalse (has_tab t)
IsLent (Sliced start end) t = (cell t ≡ t) × IsTrue (is_sliced_stretch t start end)
IsLent (Truncated side width tail) t = KeptStays t width (closed_cell tail) × IsTrue (is_cut_at_end side (cell t) width) × (truncated_ending (cell t) width (closed_cell tail) ≡ [])
IsLent (Padded width alignment) t = (cell t ≡ t) × (missing (cell t) width ≡ 0) × (closing (cell t) ≡ [])
IsLent (Fitted width alignment tail) t =
    KeptStays t width (closed_cell tail) × (truncated_ending (cell t) width (closed_cell tail) ≡ [])
    × (missing (truncated (cell t) width (closed_cell tail)) width ≡ 0) × (closing (truncated (cell t) width (closed_cell tail)) ≡ [])

-- so is what each of several changes makes of what the one before made
abbrev pub AreLent : List Change → List ℕ → Type 0
AreLent [] t = ⊤
AreLent (change ∷ changes) t = IsLent change t × AreLent changes (changed change t)

-- the text of a cell, closed, is lent by the text t
abbrev pub IsLentCell : List ℕ → Type 0
IsLentCell t = (cell t ≡ t) × (closing (cell t) ≡ [])

-- the edited text is lent by t
abbrev pub IsLentEdited : List Change → List ℕ → Type 0
IsLentEdited changes t = AreLent changes t × (IsTrue (only_expand changes) → IsLentCell (changed_in_turn changes t))

-- How long an edited text is at most.

-- how many bytes longer than the text t is what a change makes of it at most, as the call of its name has it
abbrev pub most_added : Change → List ℕ → ℕ
most_added (Expanded stop) t = stop * tabs t
most_added (Sliced start end) t = sliced_blanks (cell t) start end + longest_start_and_close + longest_link_end
most_added (Truncated side width tail) t = length t + length (closed_cell tail) + width + 2 * (longest_start_and_close + longest_link_end)
most_added (Padded width alignment) t = missing (cell t) width + longest_link_end + longest_close
most_added (Fitted width alignment tail) t =
    length (closed_cell tail) + missing (truncated (cell t) width (closed_cell tail)) width + 2 * (longest_link_end + longest_close)

-- the sum of what each of several changes adds at most to what the one before made
abbrev pub most_added_in_turn : List Change → List ℕ → ℕ
most_added_in_turn [] t = 0
most_added_in_turn (change ∷ changes) t = most_added change t + most_added_in_turn changes (changed change t)
