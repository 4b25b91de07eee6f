use Rattle.std.proofs.Common.{◌≡◌, []}
use denote.Text.{Utf8}
use denote.Shadow.{shadow}
use Rattle.std.specs.List.{list_all}
use Rattle.ansi_items.specs.Scans.{pieces_left}
use Rattle.ansi_style.specs.States.{rendition_of}
use Rattle.ansi_safe.specs.declared.cells.Place.TheVariants.{Cell}
use Rattle.ansi_safe.specs.Cells.{piece_stays, is_cell}
use Rattle.ansi_safe.proofs.LinkLemmas.{IsOpenSoFar}
use Rattle.ansi_safe.proofs.cells.pen_after_items.Given as goal

-- what is left decides; and what is open so far
abbrev pub invariant-loop-item : goal.invariant-loop-item
invariant-loop-item l = record {
  text : l.item-iterator.text ≡ l.text;
  decides : is_cell l.text ≡ list_all (piece_stays Cell) (pieces_left l.item-iterator);
  so_far : IsOpenSoFar l.text (rendition_of l.before) [] (rendition_of l.style) l.link (pieces_left l.item-iterator);
  link_is_text : shadow (Utf8 l.link);
}
