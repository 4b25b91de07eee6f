use Rattle.std.proofs.Common.{drop}
use Rattle.ansi_items.specs.Plain.{plain}
use Rattle.ansi_restyle.proofs.TurnLemmas.{IsTurn}
use Rattle.ansi_restyle.proofs.restyle.are_in_turn.Given as goal

-- the ranges so far are in turn, and what follows them is left
abbrev pub invariant-loop-range : goal.invariant-loop-range
invariant-loop-range l = IsTurn (plain l.text) l.ranges (drop l.range-index l.ranges) l.place l.rest.text.now
