use Rattle.ansi_split.proofs.BetweenLemmas.{parts_are_between}
use Rattle.ansi_str.proofs.Common.{parts_are_split, slices_over-parts-empty, parts_in_turn, length-parts}
use Rattle.ansi_str.proofs.laws.parts_lie_between_matches.Goals as goal

pub returns-clause-between : goal.returns-clause-between
returns-clause-between c = parts_are_between

pub returns-clause-in_turn : goal.returns-clause-in_turn
returns-clause-in_turn c = parts_in_turn

pub returns-clause-split : goal.returns-clause-split
returns-clause-split c = parts_are_split

pub returns-clause-characters : goal.returns-clause-characters
returns-clause-characters c = slices_over-parts-empty

pub returns-clause-few : goal.returns-clause-few
returns-clause-few c = length-parts
