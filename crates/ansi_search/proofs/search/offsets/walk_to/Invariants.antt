use Rattle.ansi_search.proofs.Common.{◌≡◌, rendition_of, pieces_left}
use Rattle.ansi_search.proofs.OffsetLemmas.{IsOffsetWalk}
use Rattle.ansi_search.proofs.search.offsets.walk_to.Given as goal

-- what has been passed, and then what is before the position in what is left, is what is before it in the whole text
abbrev pub invariant-loop-item : goal.invariant-loop-item
invariant-loop-item l = record {
  text : l.item-iterator.text ≡ l.text;
  way : IsOffsetWalk l.text l.position (rendition_of l.initial.style) l.item-iterator.offset l.remaining (rendition_of l.style) (pieces_left l.item-iterator);
}
