use Rattle.ansi_split.proofs.Common.{◌-◌}
use Rattle.ansi_split.proofs.IntervalWalkLemmas.{IsIntervalWalk}
use Rattle.ansi_split.proofs.split.intervals.part_interval.Given as goal

-- the parts counted so far are passed
abbrev pub invariant-loop : goal.invariant-loop
invariant-loop l = IsIntervalWalk l.text l.pat l.index (l.index - l.counter) l.place l.skip l.from l.rest.text.now
