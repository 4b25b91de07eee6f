use Rattle.ansi_split.proofs.Common.{◌≡◌, ◌++◌, string_bytes, pieces_of, pieces_left}
use Rattle.ansi_split.proofs.SpanWalkLemmas.{left_of, IsShownSoFar}
use Rattle.ansi_style.specs.Writing.{KeepsText}
use Rattle.ansi_split.proofs.split.spans.write_text.Given as goal

-- what is written, and what is left, are the whole
abbrev pub invariant-loop-item : goal.invariant-loop-item
invariant-loop-item g l = record {
  text : l.item-iterator.text ≡ l.text;
  so_far : IsShownSoFar (string_bytes l.fn.part ++ left_of l.initial.skip (pieces_of l.text)) (string_bytes l.part) l.skip (pieces_left l.item-iterator);
  kept : KeepsText (string_bytes l.fn.part) (string_bytes l.part);
}
