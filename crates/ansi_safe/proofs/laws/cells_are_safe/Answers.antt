use Rattle.ansi_safe.specs.declared.cells.Place.TheVariants.{Cell, Paragraph}
use Rattle.ansi_safe.proofs.CellLemmas.{placed-is_safe}
use Rattle.ansi_safe.proofs.laws.cells_are_safe.Goals as goal

pub returns-clause-cell : goal.returns-clause-cell
returns-clause-cell c = placed-is_safe Cell

pub returns-clause-paragraph : goal.returns-clause-paragraph
returns-clause-paragraph c = placed-is_safe Paragraph
