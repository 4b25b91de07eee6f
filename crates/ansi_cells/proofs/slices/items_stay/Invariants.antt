use Rattle.std.proofs.Common.{◌≡◌}
use Rattle.std.specs.List.{list_all}
use Rattle.ansi_items.specs.Pieces.{pieces_of}
use Rattle.ansi_items.specs.Scans.{pieces_left}
use Rattle.ansi_cells.specs.Slices.{is_ascii_piece}
use Rattle.ansi_cells.proofs.slices.items_stay.Given as goal

-- what is left decides
abbrev pub invariant-loop-step : goal.invariant-loop-step
invariant-loop-step l = record {
  text : l.step-iterator.text ≡ l.text;
  decides : list_all is_ascii_piece (pieces_of l.text) ≡ list_all is_ascii_piece (pieces_left l.step-iterator);
}
