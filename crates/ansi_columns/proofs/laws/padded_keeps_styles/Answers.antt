use Rattle.ansi_safe.specs.Cells.{cell}
use Rattle.ansi_safe.proofs.CellTextLemmas.{whole-cell}
use Rattle.ansi_cells.proofs.StyledLawLemmas.{padded-styled, padded-residue}
use Rattle.ansi_columns.proofs.laws.padded_keeps_styles.Goals as goal

pub returns-clause-styled : goal.returns-clause-styled
returns-clause-styled c = λ t width alignment utf8. padded-styled (cell t) width alignment (whole-cell t utf8)

pub returns-clause-residue : goal.returns-clause-residue
returns-clause-residue c = λ t width alignment utf8. padded-residue (cell t) width alignment (whole-cell t utf8)
