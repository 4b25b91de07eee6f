use Rattle.ansi_style.specs.Rendition.{plain_style}
use Rattle.ansi_blocks.proofs.BlockLemmas.{length-blocks_from, blocks-bare}
use Rattle.ansi_blocks.proofs.BlockRunLemmas.{length-blocks}
use Rattle.ansi_blocks.proofs.blocks.get_blocks.Goals as goal

-- there are no more blocks than bytes
pub returns-clause-len : goal.returns-clause-len
returns-clause-len g c = rw c.plain_style.ensures (length-blocks_from plain_style c.args.text.now)

-- there is one for each run
pub returns-clause-runs : goal.returns-clause-runs
returns-clause-runs g c = rw c.plain_style.ensures (length-blocks c.args.text.now)

-- on a text without ESC each is a borrow
pub returns-clause-takes_no_memory : goal.returns-clause-takes_no_memory
returns-clause-takes_no_memory g c = λ none. rw c.plain_style.ensures (blocks-bare c.args.text.now none)
