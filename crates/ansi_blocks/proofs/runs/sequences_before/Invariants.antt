use Rattle.ansi_blocks.proofs.Common.{◌≡◌, string_bytes, sequences_before, pieces_left}
use Rattle.ansi_blocks.proofs.BlockWalkLemmas.{IsJoinedSoFar}
use Rattle.ansi_blocks.proofs.runs.sequences_before.Given as goal

-- what is joined, and what waits before the first run among the pieces that are left, are all that waits
abbrev pub invariant-loop-item : goal.invariant-loop-item
invariant-loop-item g l = record {
  text : l.item-iterator.text ≡ l.text;
  so_far : IsJoinedSoFar (sequences_before l.text 0) (string_bytes l.joined) (pieces_left l.item-iterator);
}
