use Rattle.std.proofs.Common.{◌≡◌, ◌≤◌, ◌++◌, ℕ, List, length, drop, map}
use Rattle.ansi_items.specs.Plain.{plain}
use Rattle.ansi_clusters.specs.Lines.{shown_lines}
use Rattle.ansi_calls.specs.Columns.{line_entry}
use Rattle.ansi_calls.proofs.lines.copy_lines.Given as goal

-- the lines so far are counted, and written if there is room for them, and those that are left make up all lines with them
abbrev pub invariant-loop-line : goal.invariant-loop-line
invariant-loop-line l = record {
  can : (goal.iterator-loop-line).can_next l.line-iterator;
  finite : (goal.iterator-loop-line).is_finite l.line-iterator;
  copied : (done : List (ℕ × ℕ)) × (done ++ l.line-iterator ≡ shown_lines l.width (plain l.text)) × (l.count ≡ length done)
      × (length done ≤ length l.fn.entries → l.entries ≡ map line_entry done ++ drop (length (map line_entry done)) l.fn.entries);
}
