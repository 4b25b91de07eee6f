use Rattle.std.proofs.Common.{◌≡◌, ◌-◌, ◌≤◌, ◌++◌, string_bytes}
use Rattle.ansi_clusters.specs.Lines.{blanks}
use Rattle.ansi_cells.proofs.shown.push_blanks.Given as goal

-- the blanks that are not left are written
abbrev pub invariant-loop-left : goal.invariant-loop-left
invariant-loop-left g l = record {
  within : l.left ≤ l.fn.count;
  written : string_bytes l.out ≡ string_bytes l.fn.out ++ blanks (l.fn.count - l.left);
}

abbrev pub decreases-loop-left : goal.decreases-loop-left
decreases-loop-left g l = l.left
