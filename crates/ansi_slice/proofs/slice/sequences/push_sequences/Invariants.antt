use Rattle.ansi_slice.proofs.Common.{◌≡◌, ◌++◌, string_bytes, Rendition, plain_style, pieces_of, pieces_left, sequences_up_to}
use Rattle.ansi_slice.proofs.StretchLemmas.{IsPushedSoFar}
use Rattle.ansi_search.proofs.OffsetLemmas.{IsOffsetWalk}
use Rattle.ansi_style.specs.Writing.{KeepsText}
use Rattle.ansi_slice.proofs.slice.sequences.push_sequences.Given as goal

-- what has been appended, and the sequences up to the position in what is left, are all; and the offset of the position
abbrev pub invariant-loop-item : goal.invariant-loop-item
invariant-loop-item g l = record {
  text : l.item-iterator.text ≡ l.text;
  way : (style : Rendition) × IsOffsetWalk l.text l.position plain_style l.item-iterator.offset l.remaining style (pieces_left l.item-iterator);
  so_far : IsPushedSoFar (string_bytes l.initial.out ++ sequences_up_to l.position (pieces_of l.text)) (string_bytes l.out) l.remaining (pieces_left l.item-iterator);
  kept : KeepsText (string_bytes l.fn.out) (string_bytes l.out);
}
