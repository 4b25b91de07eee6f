use Rattle.std.proofs.Common.{◌≡◌, ◌++◌, flat_map, string_bytes}
use Rattle.ansi_items.specs.Scans.{pieces_left}
use Rattle.ansi_safe.specs.Cells.{piece_in, placed}
use Rattle.ansi_safe.proofs.cells.push_placed.Given as goal

-- what is written and what becomes of what is left are what was there and what becomes of all
abbrev pub invariant-loop-item : goal.invariant-loop-item
invariant-loop-item g l = record {
  text : l.item-iterator.text ≡ l.text;
  written : string_bytes l.out ++ flat_map (piece_in l.place) (pieces_left l.item-iterator) ≡ string_bytes l.initial.out ++ placed l.place l.text;
}
