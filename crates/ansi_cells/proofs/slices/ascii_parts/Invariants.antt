use Rattle.std.proofs.Common.{◌≡◌}
use denote.Text.{Utf8}
use denote.Shadow.{shadow}
use Rattle.std.specs.List.{list_all}
use Rattle.ansi_items.specs.Pieces.{pieces_of}
use Rattle.ansi_items.specs.Scans.{pieces_left}
use Rattle.ansi_style.specs.States.{rendition_of}
use Rattle.ansi_cells.specs.Slices.{is_ascii_piece}
use Rattle.ansi_cells.proofs.AsciiSliceLemmas.{IsSliceSoFar}
use Rattle.ansi_cells.proofs.slices.ascii_parts.Given as goal

-- how far the pass has come to both edges
abbrev pub invariant-loop-step : goal.invariant-loop-step
invariant-loop-step l = record {
  text : l.step-iterator.text ≡ l.text;
  so_far : IsSliceSoFar l.text l.start l.end l.from l.place l.step-iterator.offset (rendition_of l.opened.style) l.opened.link.now (rendition_of l.style) l.link (pieces_left l.step-iterator);
  decides : list_all is_ascii_piece (pieces_of l.text) ≡ list_all is_ascii_piece (pieces_left l.step-iterator);
  link_is_text : shadow (Utf8 l.link);
}
