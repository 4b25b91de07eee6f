use Rattle.ansi_slice.proofs.Common.{◌≡◌, pieces_left}
use Rattle.ansi_slice.proofs.StretchLemmas.{IsFrontWalk}
use Rattle.ansi_slice.proofs.slice.sequences.first_run.Given as goal

-- so far all are sequences
abbrev pub invariant-loop-item : goal.invariant-loop-item
invariant-loop-item l = record {
  text : l.item-iterator.text ≡ l.text;
  walk : IsFrontWalk l.text l.item-iterator.offset (pieces_left l.item-iterator);
}
