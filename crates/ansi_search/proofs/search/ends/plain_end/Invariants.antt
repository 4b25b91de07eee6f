use Rattle.ansi_search.proofs.Common.{◌≡◌, ◌<◌, length, drop, IsCharBoundary, plain}
use Rattle.ansi_search.specs.Offsets.{BeginsItem}
use Rattle.ansi_search.proofs.search.ends.plain_end.Given as goal

-- how long the plain text is from an item on
abbrev pub invariant-loop-len : goal.invariant-loop-len
invariant-loop-len l = record {
  boundary : IsCharBoundary l.text l.start;
  begins : 0 < l.start → BeginsItem (drop l.start l.text);
  count : l.len ≡ length (plain (drop l.start l.text));
}

abbrev pub decreases-loop-len : goal.decreases-loop-len
decreases-loop-len l = l.start
