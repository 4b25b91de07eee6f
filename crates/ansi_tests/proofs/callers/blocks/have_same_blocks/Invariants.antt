use Rattle.std.proofs.Common.{◌≡◌}
use Rattle.std.specs.Cmp.Lexicographic.{pointwise}
use Rattle.ansi_str.specs.Blocks.{blocks}
use Rattle.ansi_str.specs.Same.{are_same}
use Rattle.ansi_tests.proofs.callers.blocks.have_same_blocks.Given as goal

-- if the blocks that are left are the same, all are
abbrev pub invariant-loop-block : goal.invariant-loop-block
invariant-loop-block l = pointwise are_same l.block-iterator l.others ≡ pointwise are_same (blocks l.left) (blocks l.right)
