use Rattle.ansi_items.proofs.Utf8Lemmas.{IsUtf8-plain}
use Rattle.ansi_restyle.specs.ReplacedEach.{swaps_of, ranges_of}
use Rattle.ansi_restyle.proofs.ReplacedEachLemmas.{next_ranges, no_ranges}
use Rattle.ansi_restyle.proofs.TurnLemmas.{turn-begin, turn-bad, turn-step, turn-end}
use Rattle.ansi_restyle.proofs.replace_each.edits_in_turn.Goals as goal

pub loop-edit-init : goal.loop-edit-init
loop-edit-init c = rw c.new-rest.ensures (turn-begin c.args.text.now (ranges_of (swaps_of c.args.edits.now)) (IsUtf8-plain c.args.text.now c.utf8.text))

pub returns-in_default : goal.returns-in_default
returns-in_default c = turn-bad c.loop-edit.invariant (next_ranges c.args.edits.now c.loop-edit.edit-index _ c.loop-edit-test.true) c.in_default.ensures

pub loop-edit-preserved : goal.loop-edit-preserved
loop-edit-preserved c = turn-step c.loop-edit.invariant (next_ranges c.args.edits.now c.loop-edit.edit-index _ c.loop-edit-test.true) c.in-Some.ensures

pub returns : goal.returns
returns c = turn-end c.loop-edit.invariant (no_ranges c.args.edits.now c.loop-edit.edit-index c.loop-edit-test.false) c.is_char_boundary.ensures.value
