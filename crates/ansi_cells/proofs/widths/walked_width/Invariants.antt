use Rattle.std.proofs.Common.{◌-◌, length}
use Rattle.ansi_items.specs.Plain.{plain}
use Rattle.ansi_clusters.specs.Walks.{IsCountedTo, IsWalkIn}
use Rattle.ansi_cells.proofs.widths.walked_width.Given as goal

-- the number of columns before the walk
abbrev pub invariant-clusters : goal.invariant-clusters
invariant-clusters l = record {
  walk : IsWalkIn l.view l.text l.walk;
  counted : IsCountedTo l.view l.text l.walk.position l.total;
}

abbrev pub decreases-clusters : goal.decreases-clusters
decreases-clusters l = length (plain l.text) - l.walk.position
