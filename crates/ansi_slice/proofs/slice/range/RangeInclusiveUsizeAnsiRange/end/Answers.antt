use Rattle.std.proofs.Common.{rules}
use Rattle.ansi_slice.proofs.slice.range.RangeInclusiveUsizeAnsiRange.end.Goals as goal

-- the end lies one past the last position
pub returns : goal.returns
returns c = search rules
