use Rattle.ansi_restyle.proofs.LineEndLemmas.{matches_outside}
use Rattle.ansi_restyle.proofs.laws.matches_begin_outside_line_ends.Goals as goal

pub returns : goal.returns
returns c = matches_outside
