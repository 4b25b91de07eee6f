use Rattle.std.proofs.Common.{◌≡◌, ◌+◌, length}
use Rattle.ansi_str.specs.Blocks.{blocks}
use Rattle.ansi_tests.proofs.callers.blocks.count_blocks.Given as goal

-- the blocks so far and those that are left are all
abbrev pub invariant-loop-block : goal.invariant-loop-block
invariant-loop-block l = l.n + length l.block-iterator ≡ length (blocks l.text)
