use Rattle.ansi_split.proofs.Common.{◌≡◌, ◌+◌, length, plain, plain_of, pieces_left}
use Rattle.ansi_split.proofs.split.intervals.plain_len.Given as goal

-- what is counted and what is left are all
abbrev pub invariant-loop-item : goal.invariant-loop-item
invariant-loop-item l = record {
  text : l.item-iterator.text ≡ l.text;
  so_far : l.len + length (plain_of (pieces_left l.item-iterator)) ≡ length (plain l.text);
}
