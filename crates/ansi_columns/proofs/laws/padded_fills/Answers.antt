use Rattle.ansi_safe.specs.Cells.{cell}
use Rattle.ansi_safe.proofs.CellTextLemmas.{whole-cell, IsUtf8-cell}
use Rattle.ansi_cells.proofs.LinkedLawLemmas.{padded-whole, padded-plain}
use Rattle.ansi_cells.proofs.ShownLawLemmas.{padded-columns, padded-fills}
use Rattle.ansi_columns.proofs.laws.padded_fills.Goals as goal

pub returns-clause-whole : goal.returns-clause-whole
returns-clause-whole c = λ t width alignment utf8. padded-whole (cell t) width alignment (whole-cell t utf8)

pub returns-clause-plain : goal.returns-clause-plain
returns-clause-plain c = λ t width alignment utf8. padded-plain (cell t) width alignment (whole-cell t utf8)

pub returns-clause-columns : goal.returns-clause-columns
returns-clause-columns c = λ t width alignment utf8 printable. padded-columns (cell t) width alignment printable (whole-cell t utf8)

pub returns-clause-fills : goal.returns-clause-fills
returns-clause-fills c = λ t width alignment utf8. padded-fills (cell t) width alignment (IsUtf8-cell t utf8) (whole-cell t utf8)
