use Rattle.ansi_restyle.proofs.LinkTurnLemmas.{links_in_turn}
use Rattle.ansi_restyle.proofs.laws.links_are_in_turn.Goals as goal

pub returns : goal.returns
returns c = links_in_turn
