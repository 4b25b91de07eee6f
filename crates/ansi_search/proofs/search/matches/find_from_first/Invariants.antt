use Rattle.ansi_search.proofs.Common.{◌-◌, ◌≤◌, length, Nowhere, OccursAt}
use Rattle.ansi_search.proofs.search.matches.find_from_first.Given as goal

-- the pattern doesn't occur before the place
abbrev pub invariant-places : goal.invariant-places
invariant-places l = record {
  within : l.at ≤ length l.run;
  passed : Nowhere (OccursAt l.run l.pat) 0 l.at;
}

abbrev pub decreases-places : goal.decreases-places
decreases-places l = length l.run - l.at
