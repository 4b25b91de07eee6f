use Rattle.std.proofs.Common.{rules}
use Rattle.ansi_clusters.proofs.break_state.break_by_pair.Goals as goal

-- the values of the other neighbors don't decide
pub returns-in_default-2 : goal.returns-in_default-2
returns-in_default-2 c = search rules
