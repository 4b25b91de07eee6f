-- The text of a table's cell: truncated if it is too wide, and padded if it is too narrow.
use Rattle.std.specs.Prelude.{ℕ, List}
use Rattle.ansi_cells.specs.declared.shown.Alignment.{Alignment}
use Rattle.ansi_cells.specs.Shown.{truncated, padded}

-- the text t truncated to `width` columns, and then padded to them (own)
abbrev pub fitted : List ℕ → ℕ → Alignment → List ℕ → List ℕ
fitted t width alignment tail = padded (truncated t width tail) width alignment
