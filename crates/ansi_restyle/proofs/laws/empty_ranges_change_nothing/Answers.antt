use Rattle.ansi_restyle.proofs.EmptyLemmas.{restyled-empty}
use Rattle.ansi_restyle.proofs.laws.empty_ranges_change_nothing.Goals as goal

pub returns-clause-empty_ranges : goal.returns-clause-empty_ranges
returns-clause-empty_ranges c = restyled-empty
