use Rattle.ansi_slice.proofs.Common.{◌≡◌, rendition_of, pieces_left}
use Rattle.ansi_slice.proofs.StretchLemmas.{IsStretchWalk}
use Rattle.ansi_slice.proofs.slice.cuts.stretch_of.Given as goal

-- both ends are ahead in what is left, or the start has been found
abbrev pub invariant-loop-item : goal.invariant-loop-item
invariant-loop-item l = record {
  text : l.item-iterator.text ≡ l.text;
  way : IsStretchWalk l.text l.start l.end (rendition_of l.initial.style) l.item-iterator.offset l.place l.marks l.from (rendition_of l.style) (pieces_left l.item-iterator);
}
