use Rattle.std.proofs.Common.{◌≡◌}
use Rattle.std.specs.List.{list_any}
use Rattle.ansi_items.specs.Scans.{pieces_left}
use Rattle.ansi_cells.specs.Tabs.{piece_has_tab, has_tab}
use Rattle.ansi_cells.proofs.tabs.has_tab.Given as goal

-- what is left decides
abbrev pub invariant-loop-item : goal.invariant-loop-item
invariant-loop-item l = record {
  text : l.item-iterator.text ≡ l.text;
  decides : has_tab l.text ≡ list_any piece_has_tab (pieces_left l.item-iterator);
}
