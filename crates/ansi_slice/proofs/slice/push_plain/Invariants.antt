use Rattle.ansi_slice.proofs.Common.{◌≡◌, ◌++◌, string_bytes, plain, plain_of, pieces_left}
use Rattle.ansi_slice.proofs.slice.push_plain.Given as goal

-- what is written and the plain text of what is left are what was there and the plain text of all
abbrev pub invariant-loop-item : goal.invariant-loop-item
invariant-loop-item g l = record {
  text : l.item-iterator.text ≡ l.text;
  written : string_bytes l.out ++ plain_of (pieces_left l.item-iterator) ≡ string_bytes l.initial.out ++ plain l.text;
}
