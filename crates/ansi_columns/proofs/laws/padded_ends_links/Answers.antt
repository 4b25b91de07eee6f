use Rattle.ansi_safe.specs.Cells.{cell}
use Rattle.ansi_safe.proofs.CellTextLemmas.{whole-cell}
use Rattle.ansi_cells.proofs.LinkedLawLemmas.{padded-linked, padded-closed}
use Rattle.ansi_columns.proofs.laws.padded_ends_links.Goals as goal

pub returns-clause-linked : goal.returns-clause-linked
returns-clause-linked c = λ t width alignment utf8. padded-linked (cell t) width alignment (whole-cell t utf8)

pub returns-clause-left_open : goal.returns-clause-left_open
returns-clause-left_open c = λ t width alignment utf8. padded-closed (cell t) width alignment (whole-cell t utf8)
