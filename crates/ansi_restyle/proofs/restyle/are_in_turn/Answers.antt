use Rattle.std.proofs.lemmas.List.{drop_more}
use Rattle.ansi_items.proofs.Utf8Lemmas.{IsUtf8-plain}
use Rattle.ansi_restyle.proofs.TurnLemmas.{turn-begin, turn-bad, turn-step}
use Rattle.ansi_restyle.proofs.restyle.are_in_turn.Goals as goal

pub loop-range-init : goal.loop-range-init
loop-range-init c = rw c.new-rest.ensures (turn-begin c.args.text.now c.args.ranges.now (IsUtf8-plain c.args.text.now c.utf8.text))

pub returns-in_default : goal.returns-in_default
returns-in_default c = turn-bad c.loop-range.invariant (drop_more c.args.ranges.now c.loop-range.range-index _ c.loop-range-test.true) c.in_default.ensures

pub loop-range-preserved : goal.loop-range-preserved
loop-range-preserved c = turn-step c.loop-range.invariant (drop_more c.args.ranges.now c.loop-range.range-index _ c.loop-range-test.true) c.in-Some.ensures
