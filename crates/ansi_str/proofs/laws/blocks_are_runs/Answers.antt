use Rattle.ansi_blocks.proofs.BlockRunLemmas.{length-blocks, styles-blocks, texts-blocks}
use Rattle.ansi_str.proofs.laws.blocks_are_runs.Goals as goal

pub returns-clause-runs : goal.returns-clause-runs
returns-clause-runs c = length-blocks

pub returns-clause-texts : goal.returns-clause-texts
returns-clause-texts c = texts-blocks

pub returns-clause-styles : goal.returns-clause-styles
returns-clause-styles c = styles-blocks
