use Rattle.ansi_items.specs.Plain.{plain}
use Rattle.ansi_restyle.proofs.RefusedLemmas.{IsTaken}
use Rattle.ansi_restyle.proofs.restyle.refused_range.Given as goal

-- the ranges so far are in turn, and what follows them is left
abbrev pub invariant-loop-index : goal.invariant-loop-index
invariant-loop-index l = IsTaken (plain l.text) l.ranges l.index l.place l.rest.text.now
