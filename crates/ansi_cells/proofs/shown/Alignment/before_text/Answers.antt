use Rattle.std.proofs.Common.{rules}
use Rattle.ansi_cells.proofs.shown.Alignment.before_text.Goals as goal

-- half of the blanks, if their number is even
pub returns-in-Center-clause-count : goal.returns-in-Center-clause-count
returns-in-Center-clause-count c = search rules
