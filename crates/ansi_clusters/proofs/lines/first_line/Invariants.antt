use Rattle.std.proofs.Common.{◌≡◌, ◌-◌, ◌≤◌, Some, length}
use Rattle.ansi_items.specs.Plain.{plain}
use Rattle.ansi_clusters.specs.Lines.{seen_lines_left}
use Rattle.ansi_clusters.specs.Walks.{IsTightWalk}
use Rattle.ansi_clusters.proofs.lines.first_line.Given as goal

-- the line begins here, or at a word after an indent here
abbrev pub invariant-indents : goal.invariant-indents
invariant-indents l = record {
  from_is : IsTightWalk l.view l.text l.from;
  ordered : l.fn.start.position ≤ l.from.position;
  lines : seen_lines_left l.view l.text l.width (Some l.fn.start) ≡ seen_lines_left l.view l.text l.width (Some l.from);
}

abbrev pub decreases-indents : goal.decreases-indents
decreases-indents l = length (plain l.text) - l.from.position
