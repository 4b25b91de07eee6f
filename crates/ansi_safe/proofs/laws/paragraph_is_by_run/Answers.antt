use Rattle.ansi_safe.specs.declared.cells.Place.TheVariants.{Paragraph}
use Rattle.ansi_safe.proofs.CellLemmas.{plain-placed}
use Rattle.ansi_safe.proofs.laws.paragraph_is_by_run.Goals as goal

pub returns : goal.returns
returns c = plain-placed Paragraph
