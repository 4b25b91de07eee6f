use Rattle.ansi_search.proofs.Common.{◌≡◌, ◌≤◌, [], length, drop, IsTrue, Nowhere, plain, plain_of, is_match, pieces_left}
use Rattle.ansi_search.proofs.search.matches.boundary_from.Given as goal

-- what is left is the plain text from the place on, and no match begins before it
abbrev pub invariant-loop-item : goal.invariant-loop-item
invariant-loop-item l = record {
  text : l.item-iterator.text ≡ l.text;
  left : plain_of (pieces_left l.item-iterator) ≡ drop l.place (plain l.text);
  within : l.place ≤ length (plain l.text);
  bounded : l.place ≤ l.item-iterator.offset;
  none : Nowhere (λ i. IsTrue (is_match (plain l.text) [] i)) l.from l.place;
}
