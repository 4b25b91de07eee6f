use Rattle.ansi_search.proofs.Common.{◌≡◌, ◌≤◌, drop, length, shadow, Utf8, plain}
use Rattle.ansi_search.proofs.search.floor_char_boundary.Given as goal

-- what is left is the plain text from the place on, which isn't past the index
abbrev pub invariant-loop-rest : goal.invariant-loop-rest
invariant-loop-rest l = record {
  text : shadow (Utf8 l.rest);
  fits : length l.rest ≤ length l.text;
  left : plain l.rest ≡ drop l.place (plain l.text);
  within : l.place ≤ length (plain l.text);
  before : l.place ≤ l.index;
}

abbrev pub decreases-loop-rest : goal.decreases-loop-rest
decreases-loop-rest l = length l.rest
