use Rattle.ansi_search.proofs.PositionLemmas.{good_position_is, good_range_is, is_position_in-good, is_range_in-good}
use Rattle.ansi_str.proofs.laws.positions_are_std.Goals as goal

pub returns-clause-position : goal.returns-clause-position
returns-clause-position c = good_position_is

pub returns-clause-range : goal.returns-clause-range
returns-clause-range c = good_range_is

pub returns-clause-open_range : goal.returns-clause-open_range
returns-clause-open_range c = good_position_is

pub returns-clause-position_in : goal.returns-clause-position_in
returns-clause-position_in c = is_position_in-good

pub returns-clause-range_in : goal.returns-clause-range_in
returns-clause-range_in c = is_range_in-good
