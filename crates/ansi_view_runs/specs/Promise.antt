-- The promise of the program: what the words make of any bytes.
use Rattle.std.specs.Prelude.{◌≡◌, ℕ, ◌==◌, Bool, not, ◌||◌, List, [], ◌∷◌, ◌++◌, All, map, fold, IsTrue}
use Rattle.std.specs.List.{flat_map, list_all, join_by}
use Rattle.std.specs.Str.{IsUtf8, byte}
use Rattle.ansi_items.specs.Plain.{plain}
use Rattle.ansi_safe.specs.Cells.{paragraph}
use Rattle.ansi_safe.specs.Links.{IsClosed}
use Rattle.ansi_safe.specs.Safe.{is_safe}
use Rattle.ansi_columns.specs.Edits as columns
use Rattle.ansi_clusters.specs.Lines as wrap
use Rattle.ansi_cells.specs.Rows.{Row, row, cell_row, row_bytes, row_range, row_screen}
use Rattle.ansi_cells.specs.Screens.{screen}
use Rattle.ansi_cells.specs.Tabs.{expanded}
use Rattle.ansi_view_runs.specs.Edits.{Change, OnColumns, Wrapped}
use Rattle.ansi_view_runs.specs.Lines.{Line, lines}
use Rattle.ansi_view_runs.specs.SafeTexts.{IsSafeText}
use Rattle.ansi_view_runs.specs.Views.{Work, line_break, opening_after, shown}

-- what a change makes of a row: the rows of the lines of a wrap, or else one row (`ansi_columns`)
abbrev pub changed_rows : Change → Row → List Row
changed_rows (OnColumns change) r = columns.changed_row change r ∷ []
changed_rows (Wrapped width) r = map (λ (i : ℕ × ℕ). row_range i.0 i.1 r) (wrap.lines width (row_bytes r))

-- what changes make of a row in turn
abbrev pub rows_in_turn : List Change → Row → List Row
rows_in_turn changes r = fold (λ rs change. flat_map (changed_rows change) rs) (r ∷ []) changes

-- what changes make of what the text t shows; the expansions in front of the list find the TABs, which a row has as blanks (own)
abbrev pub shown_rows : List Change → List ℕ → List Row
shown_rows [] t = row t ∷ []
shown_rows (OnColumns (columns.Expanded stop) ∷ changes) t = shown_rows changes (expanded stop t)
shown_rows (OnColumns change ∷ changes) t = rows_in_turn (OnColumns change ∷ changes) (cell_row t)
shown_rows (Wrapped width ∷ changes) t = rows_in_turn (Wrapped width ∷ changes) (row (paragraph t))

-- the plain text of t has no line feed and no carriage return
abbrev pub has_no_line_end : List ℕ → Bool
has_no_line_end t = list_all (λ b. not (b == byte "\n" || b == byte "\r")) (plain t)

-- a line of the input is written as safe texts, each on one line, with a line break between them and the line's own end; they show what the changes make of what the line shows
pub record IsViewedLine (work : Work) (opening : List ℕ) (line : Line) (written : List ℕ) : Type 0 where
  pub texts : List (List ℕ)
  pub bytes : written ≡ join_by (λ t. t) (line_break line.end) texts ++ line.end
  pub safe : All IsSafeText texts
  pub one_line : All (λ t. IsTrue (has_no_line_end t)) texts
  pub screens : map screen texts ≡ map row_screen (shown_rows work.changes (shown work.view opening line))

-- the lines of the input are written in turn, each with what is open before it
abbrev pub AreViewedLines : Work → List ℕ → List Line → List ℕ → Type 0
AreViewedLines work opening [] output = output ≡ []
AreViewedLines work opening (line ∷ more) output =
    (written : List ℕ) × (rest : List ℕ) × (output ≡ written ++ rest)
    × IsViewedLine work opening line written × AreViewedLines work (opening_after work.view opening line) more rest

-- whatever bytes come in, what goes out is UTF-8 and safe, line by line, shows what is asked of each line, and leaves nothing open
pub record IsViewed (work : Work) (input output : List ℕ) : Type 0 where
  pub utf8 : IsUtf8 output
  pub safe : IsTrue (is_safe work.view.policy.links output)
  pub lines : AreViewedLines work [] (lines input) output
  pub closed : IsClosed output
