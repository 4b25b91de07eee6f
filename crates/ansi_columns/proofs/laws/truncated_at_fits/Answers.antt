use Rattle.ansi_safe.specs.Cells.{cell}
use Rattle.ansi_safe.proofs.CellTextLemmas.{whole-cell, IsUtf8-cell}
use Rattle.ansi_columns.proofs.SidesLawLemmas.{truncated_at-narrow}
use Rattle.ansi_columns.proofs.laws.truncated_at_fits.Goals as goal

pub returns : goal.returns
returns c = λ side t width tail utf8 printable tail_printable tail_whole. truncated_at-narrow side (cell t) width tail (IsUtf8-cell t utf8) (whole-cell t utf8) tail_whole printable tail_printable
