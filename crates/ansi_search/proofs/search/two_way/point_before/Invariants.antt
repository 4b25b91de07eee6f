use Rattle.ansi_search.proofs.Common.{◌≡◌, ◌≤◌, drop, plain, plain_of, pieces_left}
use Rattle.ansi_search.proofs.search.two_way.point_before.Given as goal

-- what is left is the plain text from the place on
abbrev pub invariant-loop-item : goal.invariant-loop-item
invariant-loop-item l = record {
  text : l.item-iterator.text ≡ drop l.point.offset l.text;
  left : plain_of (pieces_left l.item-iterator) ≡ drop l.place (plain l.text);
  before : l.place ≤ l.position;
}
