use Rattle.std.specs.Str.{IsCharBoundary}
use Rattle.ansi_blocks.proofs.Common.{◌≡◌, ◌≤◌, rendition_of, pieces_left}
use Rattle.ansi_blocks.proofs.BlockWalkLemmas.{IsRunSoFar}
use Rattle.ansi_blocks.proofs.runs.first_styled_run.Given as goal

-- the blocks are those of the pieces that are left, with what waits and the style so far
abbrev pub invariant-loop-item : goal.invariant-loop-item
invariant-loop-item l = record {
  text : l.item-iterator.text ≡ l.text;
  so_far : IsRunSoFar (rendition_of l.initial.style) l.text (rendition_of l.style) l.len_before l.start l.item-iterator.offset (pieces_left l.item-iterator);
  boundary : IsCharBoundary l.text l.start;
  within : l.len_before ≤ l.item-iterator.offset;
}
