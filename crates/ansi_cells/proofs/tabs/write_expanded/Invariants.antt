use Rattle.std.proofs.Common.{◌≡◌, ◌++◌, string_bytes}
use Rattle.ansi_items.specs.Scans.{pieces_left}
use Rattle.ansi_cells.specs.Tabs.{pieces_expanded, expanded}
use Rattle.ansi_cells.proofs.tabs.write_expanded.Given as goal

-- what is written and what becomes of what is left are what becomes of all
abbrev pub invariant-loop-item : goal.invariant-loop-item
invariant-loop-item g l = record {
  text : l.item-iterator.text ≡ l.text;
  written : string_bytes l.out ++ pieces_expanded l.stop (string_bytes l.since) (pieces_left l.item-iterator) ≡ expanded l.stop l.text;
}
