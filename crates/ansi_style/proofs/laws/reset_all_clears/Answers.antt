use Rattle.std.proofs.Common.{rules}
use Rattle.ansi_style.proofs.laws.reset_all_clears.Goals as goal

-- `RESET_ALL` is this sequence
pub returns-clause-bytes : goal.returns-clause-bytes
returns-clause-bytes c = search rules
