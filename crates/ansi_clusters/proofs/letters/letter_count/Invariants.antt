use Rattle.std.proofs.Common.{◌≡◌, ◌+◌, ◌-◌, ◌≤◌, length, drop}
use Rattle.std.specs.List.{count_by}
use Rattle.ansi_clusters.specs.Letters.{is_first_byte}
use Rattle.ansi_clusters.proofs.letters.letter_count.Given as goal

-- what is counted, and what is left
abbrev pub invariant-loop-at : goal.invariant-loop-at
invariant-loop-at l = record {
  within : l.at ≤ length l.bytes;
  sum : l.count + count_by is_first_byte (drop l.at l.bytes) ≡ count_by is_first_byte l.bytes;
  most : l.count ≤ l.at;
}

abbrev pub decreases-loop-at : goal.decreases-loop-at
decreases-loop-at l = length l.bytes - l.at

abbrev pub invariant-loop-at-2 : goal.invariant-loop-at-2
invariant-loop-at-2 l = record {
  within : l.at ≤ length l.bytes;
  sum : l.count + count_by is_first_byte (drop l.at l.bytes) ≡ count_by is_first_byte l.bytes;
  most : l.count ≤ l.at;
}

abbrev pub decreases-loop-at-2 : goal.decreases-loop-at-2
decreases-loop-at-2 l = length l.bytes - l.at
