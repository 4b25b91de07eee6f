use Rattle.ansi_safe.specs.Cells.{cell}
use Rattle.ansi_safe.proofs.CellTextLemmas.{whole-cell}
use Rattle.ansi_cells.proofs.StyledLawLemmas.{truncated-styled, truncated-residue}
use Rattle.ansi_columns.proofs.laws.truncated_keeps_styles.Goals as goal

pub returns-clause-styled : goal.returns-clause-styled
returns-clause-styled c = λ t width tail utf8. truncated-styled (cell t) width tail (whole-cell t utf8)

pub returns-clause-residue : goal.returns-clause-residue
returns-clause-residue c = λ t width tail utf8. truncated-residue (cell t) width tail (whole-cell t utf8)
