use Rattle.ansi_cells.proofs.SliceLawLemmas.{sliced-whole, sliced-closed}
use Rattle.ansi_columns.proofs.laws.slices_are_closed.Goals as goal

pub returns-clause-whole : goal.returns-clause-whole
returns-clause-whole c = sliced-whole

pub returns-clause-closed : goal.returns-clause-closed
returns-clause-closed c = sliced-closed
