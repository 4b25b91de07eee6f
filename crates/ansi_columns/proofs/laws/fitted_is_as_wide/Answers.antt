use Rattle.ansi_safe.specs.Cells.{cell}
use Rattle.ansi_safe.proofs.CellTextLemmas.{whole-cell, IsUtf8-cell}
use Rattle.ansi_columns.proofs.FittedLawLemmas.{fitted-columns, fitted-fills}
use Rattle.ansi_columns.proofs.laws.fitted_is_as_wide.Goals as goal

pub returns-clause-columns : goal.returns-clause-columns
returns-clause-columns c = λ t width alignment tail utf8 printable tail_printable tail_whole. fitted-columns (cell t) width alignment tail (whole-cell t utf8) tail_whole printable tail_printable

pub returns-clause-fills : goal.returns-clause-fills
returns-clause-fills c = λ t width alignment tail utf8 tail_utf8 tail_whole. fitted-fills (cell t) width alignment tail (whole-cell t utf8) tail_whole (IsUtf8-cell t utf8) tail_utf8
