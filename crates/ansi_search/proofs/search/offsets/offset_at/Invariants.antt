use Rattle.ansi_search.proofs.Common.{◌≡◌, pieces_left}
use Rattle.ansi_search.proofs.OffsetLemmas.{IsWalk}
use Rattle.ansi_search.proofs.search.offsets.offset_at.Given as goal

-- what has been passed, and then what is before the position in what is left, is what is before it in the whole text
abbrev pub invariant-loop-item : goal.invariant-loop-item
invariant-loop-item l = record {
  text : l.item-iterator.text ≡ l.text;
  walk : IsWalk l.text l.position l.item-iterator.offset l.remaining (pieces_left l.item-iterator);
}
