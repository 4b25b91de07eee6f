use Rattle.ansi_blocks.proofs.Common.{rules}
use Rattle.ansi_blocks.proofs.blocks.AnsiBlockPartialEq.eq.Goals as goal

-- both the texts and the styles are compared
pub returns-then-eq : goal.returns-then-eq
returns-then-eq g c = search rules
