use Rattle.std.proofs.Common.{◌≡◌, ◌+◌, ◌-◌, ◌≤◌}
use Rattle.ansi_items.specs.Scans.{pieces_left}
use Rattle.ansi_style.specs.States.{rendition_of}
use Rattle.ansi_cells.proofs.PlainCellLemmas.{IsPlainSoFar}
use Rattle.ansi_cells.proofs.plain_cells.plain_runs.Given as goal

-- what was passed is SGRs and characters that are clusters by themselves
abbrev pub invariant-loop-step : goal.invariant-loop-step
invariant-loop-step l = record {
  text : l.step-iterator.text ≡ l.near;
  so_far : IsPlainSoFar l.near l.width (l.left + l.others.spare) (rendition_of l.style) l.last (l.others.len + (l.others.left - (l.left + l.others.spare))) l.step-iterator.offset (pieces_left l.step-iterator);
  less : l.left + l.others.spare ≤ l.others.left;
}
