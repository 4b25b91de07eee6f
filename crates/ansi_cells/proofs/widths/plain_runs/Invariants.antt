use Rattle.std.proofs.Common.{◌≡◌}
use Rattle.ansi_items.specs.Scans.{pieces_left}
use Rattle.ansi_cells.proofs.PlainTextLemmas.{ArePlainSoFar}
use Rattle.ansi_cells.proofs.widths.plain_runs.Given as goal

-- the runs passed are characters that are clusters by themselves beside each other
abbrev pub invariant-loop-step : goal.invariant-loop-step
invariant-loop-step l = record {
  text : l.step-iterator.text ≡ l.text;
  so_far : ArePlainSoFar l.text l.columns l.position l.step-iterator.offset (pieces_left l.step-iterator);
}
