use Rattle.std.proofs.Common.{◌≡◌, ◌++◌, string_bytes}
use Rattle.ansi_items.specs.Pieces.{pieces_of}
use Rattle.ansi_items.specs.Scans.{pieces_left}
use Rattle.ansi_style.specs.States.{rendition_of}
use Rattle.ansi_restyle.specs.Restyled.{changed_pieces}
use Rattle.ansi_restyle.proofs.RestyleWalkLemmas.{IsChangedSoFar}
use Rattle.ansi_restyle.proofs.restyle.push_changed.Given as goal

-- what is written, and what is made of the pieces that are left, are all
abbrev pub invariant-loop-item : goal.invariant-loop-item
invariant-loop-item g l = record {
  text : l.item-iterator.text ≡ l.text;
  so_far : IsChangedSoFar (string_bytes l.initial.out ++ changed_pieces l.change (rendition_of l.initial.style) (pieces_of l.text)) (string_bytes l.out) l.change (rendition_of l.style) (pieces_left l.item-iterator);
}
