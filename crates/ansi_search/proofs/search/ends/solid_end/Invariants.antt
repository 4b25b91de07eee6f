use Rattle.ansi_search.proofs.Common.{◌≡◌, pieces_left}
use Rattle.ansi_search.proofs.WhiteSpaceLemmas.{IsSolidSoFar}
use Rattle.ansi_search.proofs.search.ends.solid_end.Given as goal

-- the end is ahead or, if only white space is left, it is the one so far
abbrev pub invariant-loop-item : goal.invariant-loop-item
invariant-loop-item l = record {
  text : l.item-iterator.text ≡ l.text;
  so_far : IsSolidSoFar l.text l.item-iterator.offset l.end (pieces_left l.item-iterator);
}
