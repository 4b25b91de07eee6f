use Rattle.std.proofs.Common.{arith}
use Rattle.ansi_tests.proofs.callers.buffers.show_parts.Goals as goal

-- at first all parts are left, which have no more bytes of the text than it has
pub loop-part-init : goal.loop-part-init
loop-part-init c = record {
  within = rw c.into_iter-part-iterator.ensures.into_iter_gives c.ansi_split-part-items.ensures.within;
  room = omega arith;
  short = omega arith;
}
