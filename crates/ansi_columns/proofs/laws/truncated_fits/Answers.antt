use Rattle.ansi_safe.specs.Cells.{cell}
use Rattle.ansi_safe.proofs.CellTextLemmas.{whole-cell, IsUtf8-cell}
use Rattle.ansi_cells.proofs.LinkedLawLemmas.{truncated-whole, truncated-plain}
use Rattle.ansi_cells.proofs.ShownLawLemmas.{truncated-columns, truncated-within}
use Rattle.ansi_columns.proofs.laws.truncated_fits.Goals as goal

pub returns-clause-whole : goal.returns-clause-whole
returns-clause-whole c = λ t width tail utf8. truncated-whole (cell t) width tail (whole-cell t utf8)

pub returns-clause-plain : goal.returns-clause-plain
returns-clause-plain c = λ t width tail utf8. truncated-plain (cell t) width tail (whole-cell t utf8)

pub returns-clause-columns : goal.returns-clause-columns
returns-clause-columns c = λ t width tail utf8 printable tail_printable. truncated-columns (cell t) width tail printable tail_printable (whole-cell t utf8)

pub returns-clause-within : goal.returns-clause-within
returns-clause-within c = λ t width tail utf8 tail_utf8. truncated-within (cell t) width tail (IsUtf8-cell t utf8) tail_utf8 (whole-cell t utf8)
