use Rattle.ansi_safe.proofs.CellLemmas.{plain-cell}
use Rattle.ansi_safe.proofs.laws.cell_is_by_character.Goals as goal

pub returns : goal.returns
returns c = plain-cell
