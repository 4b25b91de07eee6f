use Rattle.std.proofs.Common.{arith}
use Rattle.std.proofs.lemmas.Grind.{common_steps}
use Rattle.ansi_search.proofs.PositionLemmas.{good_range-utf8}
use Rattle.ansi_slice.proofs.slice.cuts.range_of.Goals as goal

-- an end isn't good
pub returns-then-end-start : goal.returns-then-end-start
returns-then-end-start c = rw (good_range-utf8 c.args.text.now c.args.start c.args.end c.utf8.text) (grind (arith, common_steps))

-- the range is good, and its bytes are a slice
pub returns : goal.returns
returns c = rw (good_range-utf8 c.args.text.now c.args.start c.args.end c.utf8.text) (grind (arith, common_steps))
