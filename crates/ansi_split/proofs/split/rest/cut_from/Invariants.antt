use Rattle.ansi_split.proofs.Common.{◌≡◌, rendition_of, pieces_left}
use Rattle.ansi_split.proofs.MatchWalkLemmas.{IsWalked}
use Rattle.ansi_split.proofs.split.rest.cut_from.Given as goal

-- what is passed has the style so far, and the match is ahead
abbrev pub invariant-loop-item : goal.invariant-loop-item
invariant-loop-item l = record {
  text : l.item-iterator.text ≡ l.text;
  so_far : IsWalked (rendition_of l.initial.style) l.text l.pat l.from l.item-iterator.offset l.ahead (rendition_of l.style) l.is_marked (pieces_left l.item-iterator);
}
