use Rattle.std.specs.Str.{trim_end}
use Rattle.ansi_search.proofs.Common.{◌≡◌, ◌<◌, length, drop, IsCharBoundary, plain}
use Rattle.ansi_search.specs.Offsets.{BeginsItem}
use Rattle.ansi_search.proofs.search.ends.end_before_white_space.Given as goal

-- only white space is from an item on
abbrev pub invariant-loop-start : goal.invariant-loop-start
invariant-loop-start l = record {
  boundary : IsCharBoundary l.text l.start;
  begins : 0 < l.start → BeginsItem (drop l.start l.text);
  white : length (trim_end (plain (drop l.start l.text))) ≡ 0;
}

abbrev pub decreases-loop-start : goal.decreases-loop-start
decreases-loop-start l = l.start
