use Rattle.std.proofs.Common.{◌≡◌}
use Rattle.std.specs.List.{list_all}
use Rattle.ansi_items.specs.Scans.{pieces_left}
use Rattle.ansi_safe.specs.Cells.{piece_stays, is_placed}
use Rattle.ansi_safe.proofs.cells.items_stay.Given as goal

-- what is left decides
abbrev pub invariant-loop-item : goal.invariant-loop-item
invariant-loop-item l = record {
  text : l.item-iterator.text ≡ l.text;
  decides : is_placed l.place l.text ≡ list_all (piece_stays l.place) (pieces_left l.item-iterator);
}
