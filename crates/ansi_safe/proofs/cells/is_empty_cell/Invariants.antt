use Rattle.std.proofs.Common.{◌≡◌, ◌==◌, length}
use Rattle.std.specs.List.{list_all}
use Rattle.ansi_items.specs.Scans.{pieces_left}
use Rattle.ansi_safe.specs.Cells.{cell, is_left_out}
use Rattle.ansi_safe.proofs.cells.is_empty_cell.Given as goal

-- what is left decides
abbrev pub invariant-loop-item : goal.invariant-loop-item
invariant-loop-item l = record {
  text : l.item-iterator.text ≡ l.text;
  decides : (length (cell l.text) == 0) ≡ list_all is_left_out (pieces_left l.item-iterator);
}
