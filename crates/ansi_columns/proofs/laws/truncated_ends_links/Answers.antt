use Rattle.ansi_safe.specs.Cells.{cell}
use Rattle.ansi_safe.proofs.CellTextLemmas.{whole-cell}
use Rattle.ansi_cells.proofs.LinkedLawLemmas.{truncated-linked, truncated-closed}
use Rattle.ansi_columns.proofs.laws.truncated_ends_links.Goals as goal

pub returns-clause-linked : goal.returns-clause-linked
returns-clause-linked c = λ t width tail utf8. truncated-linked (cell t) width tail (whole-cell t utf8)

pub returns-clause-left_open : goal.returns-clause-left_open
returns-clause-left_open c = λ t width tail utf8. truncated-closed (cell t) width tail (whole-cell t utf8)
