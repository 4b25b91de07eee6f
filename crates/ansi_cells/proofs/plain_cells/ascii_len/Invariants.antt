use Rattle.std.proofs.Common.{◌-◌, ◌≤◌, length}
use Rattle.ansi_cells.proofs.plain_cells.ascii_len.Given as goal

-- what is left

abbrev pub invariant-loop-at : goal.invariant-loop-at
invariant-loop-at l = l.at ≤ length l.bytes

abbrev pub decreases-loop-at : goal.decreases-loop-at
decreases-loop-at l = length l.bytes - l.at

abbrev pub invariant-loop-at-2 : goal.invariant-loop-at-2
invariant-loop-at-2 l = l.at ≤ length l.bytes

abbrev pub decreases-loop-at-2 : goal.decreases-loop-at-2
decreases-loop-at-2 l = length l.bytes - l.at
