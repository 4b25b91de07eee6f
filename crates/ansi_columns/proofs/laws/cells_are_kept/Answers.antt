use Rattle.ansi_cells.proofs.KeptLemmas.{kept-stays}
use Rattle.ansi_columns.proofs.laws.cells_are_kept.Goals as goal

pub returns : goal.returns
returns c = kept-stays
