use Rattle.ansi_search.proofs.Common.{◌≡◌, ◌+◌, ◌≤◌, length, plain, plain_of, pieces_left}
use Rattle.ansi_search.proofs.search.ends.plain_len.Given as goal

-- the plain bytes so far, with those that are left, are all
abbrev pub invariant-loop-item : goal.invariant-loop-item
invariant-loop-item l = record {
  text : l.item-iterator.text ≡ l.text;
  fits : l.len ≤ l.item-iterator.offset;
  count : l.len + length (plain_of (pieces_left l.item-iterator)) ≡ length (plain l.text);
}
