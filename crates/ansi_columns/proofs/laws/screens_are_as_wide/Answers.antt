use Rattle.ansi_columns.proofs.ScreenLawLemmas.{length-screen}
use Rattle.ansi_columns.proofs.laws.screens_are_as_wide.Goals as goal

pub returns : goal.returns
returns c = length-screen
