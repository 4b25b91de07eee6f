use Rattle.ansi_search.proofs.Common.{◌≡◌, ◌<◌, length, drop, plain, IsCharBoundary}
use Rattle.ansi_search.specs.Offsets.{BeginsItem}
use Rattle.ansi_search.proofs.search.ends.last_run.Given as goal

-- an item begins here, and nothing plain is after it
abbrev pub invariant-loop-start : goal.invariant-loop-start
invariant-loop-start l = record {
  boundary : IsCharBoundary l.text l.start;
  begins : 0 < l.start → BeginsItem (drop l.start l.text);
  bare : length (plain (drop l.start l.text)) ≡ 0;
}

abbrev pub decreases-loop-start : goal.decreases-loop-start
decreases-loop-start l = l.start
