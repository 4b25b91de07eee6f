use Rattle.std.proofs.Common.{drop}
use Rattle.ansi_items.specs.Plain.{plain}
use Rattle.ansi_restyle.specs.ReplacedEach.{swaps_of, ranges_of}
use Rattle.ansi_restyle.proofs.TurnLemmas.{IsTurn}
use Rattle.ansi_restyle.proofs.replace_each.edits_in_turn.Given as goal

-- the ranges so far are in turn, and what follows them is left
abbrev pub invariant-loop-edit : goal.invariant-loop-edit
invariant-loop-edit l = IsTurn (plain l.text) (ranges_of (swaps_of l.edits)) (ranges_of (swaps_of (drop l.edit-index l.edits))) l.place l.rest.text.now
