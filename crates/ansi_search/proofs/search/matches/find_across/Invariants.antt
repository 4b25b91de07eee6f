use Rattle.ansi_search.proofs.Common.{◌≡◌, ◌≤◌, ◌+◌, length, drop, plain, plain_of, pieces_left, IsWindow, LacksRareByte}
use Rattle.ansi_search.proofs.search.matches.find_across.Given as goal

-- what is left is the plain text from the place on, and up to there it is read
abbrev pub invariant-loop-item : goal.invariant-loop-item
invariant-loop-item l = record {
  text : l.item-iterator.text ≡ l.text;
  left : plain_of (pieces_left l.item-iterator) ≡ drop l.place (plain l.text);
  within : l.place ≤ length (plain l.text);
  comes : IsWindow l.text l.pattern.bytes.now l.pattern.cut.at l.from l.window;
  read : l.place ≤ l.window.position + l.window.met;
  ahead : LacksRareByte l.text l.pattern.bytes.now l.pattern.rare (record { offset = l.item-iterator.offset; position = l.place }) l.window;
}
