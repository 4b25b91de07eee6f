-- Wrapped lines with an indent before each.
use Rattle.std.specs.Prelude.{◌≡◌, ℕ, ◌+◌, ◌-◌, max, ◌==◌, ◌&&◌, List, [], ◌∷◌, ◌++◌, length}
use Rattle.ansi_items.specs.Plain.{plain}
use Rattle.ansi_safe.specs.Cells.{cell}
use Rattle.ansi_clusters.specs.Columns.{columns}
use Rattle.ansi_cells.specs.Shown.{closed_cell}
use Rattle.ansi_cells.specs.Wrapped.{CarriedPart, IsWrapped, wrapped}

-- an indent t is a text of its own (own)
abbrev pub shown_indent : List ℕ → List ℕ
shown_indent t = closed_cell t

-- the columns that the wider of two indents leaves of a width
abbrev pub text_width : ℕ → List ℕ → List ℕ → ℕ
text_width width first later = width - max (columns (plain (cell first))) (columns (plain (cell later)))

-- a line after the indent t, which is a borrow only if no indent is given (own)
abbrev pub after_indent : List ℕ → CarriedPart → CarriedPart
after_indent t l = record {
  bytes = shown_indent t ++ l.bytes;
  borrowed = length t == 0 && l.borrowed;
  source_len = length (shown_indent t) + l.source_len;
}

-- the lines, the first after one indent and the others after another
abbrev pub indented : List ℕ → List ℕ → List CarriedPart → List CarriedPart
indented first later [] = []
indented first later (l ∷ ls) = after_indent first l ∷ indented later later ls

-- the lines of the text t wrapped at a width with indents are those of first fit, with the indents before them (textwrap's, if both are as wide)
abbrev pub IsWrappedWith : List ℕ → ℕ → List ℕ → List ℕ → List CarriedPart → Type 0
IsWrappedWith t width first later ls = (alone : List CarriedPart) × IsWrapped t (text_width width first later) alone × (ls ≡ indented first later alone)

-- these lines; first fit has no others
abbrev pub wrapped_with : List ℕ → ℕ → List ℕ → List ℕ → List CarriedPart
wrapped_with t width first later = indented first later (wrapped t (text_width width first later))
