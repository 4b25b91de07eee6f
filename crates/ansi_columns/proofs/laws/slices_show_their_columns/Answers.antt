use Rattle.ansi_cells.proofs.SliceScreenLemmas.{slice-screen}
use Rattle.ansi_columns.proofs.laws.slices_show_their_columns.Goals as goal

pub returns : goal.returns
returns c = slice-screen
