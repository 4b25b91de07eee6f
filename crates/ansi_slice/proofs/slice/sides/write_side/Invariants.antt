use Rattle.ansi_slice.proofs.Common.{◌≡◌, ◌++◌, string_bytes, pieces_of, pieces_left, rendition_of, side_up_to}
use Rattle.ansi_search.proofs.OffsetLemmas.{IsOffsetWalk}
use Rattle.ansi_slice.proofs.SideWalkLemmas.{IsSideSoFar}
use Rattle.ansi_slice.proofs.slice.sides.write_side.Given as goal

-- what is written, and what the pieces that are left give before the position, are all
abbrev pub invariant-loop-item : goal.invariant-loop-item
invariant-loop-item g l = record {
  text : l.item-iterator.text ≡ l.text;
  way : IsOffsetWalk l.text l.position (rendition_of l.initial.style) l.item-iterator.offset l.remaining (rendition_of l.style) (pieces_left l.item-iterator);
  so_far : IsSideSoFar (string_bytes l.initial.out ++ side_up_to (rendition_of l.initial.style) l.position (pieces_of l.text)) (string_bytes l.out) (rendition_of l.style) l.remaining (pieces_left l.item-iterator);
}
