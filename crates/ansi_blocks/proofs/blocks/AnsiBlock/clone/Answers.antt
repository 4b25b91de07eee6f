use Rattle.ansi_blocks.proofs.Common.{rules}
use Rattle.ansi_blocks.proofs.blocks.AnsiBlock.clone.Goals as goal

-- the text, the style and whether it is a borrow are the same
pub returns-clause-same : goal.returns-clause-same
returns-clause-same g c = search rules
