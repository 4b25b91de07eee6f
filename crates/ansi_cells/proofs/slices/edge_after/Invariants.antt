use Rattle.std.proofs.Common.{◌-◌, length}
use Rattle.ansi_items.specs.Plain.{plain}
use Rattle.ansi_clusters.specs.Walks.{IsWalk}
use Rattle.ansi_cells.proofs.EdgeLemmas.{IsEdgeSoFar}
use Rattle.ansi_cells.proofs.slices.edge_after.Given as goal

-- the clusters before the walk are before the edge, and leave this number of columns
abbrev pub invariant-clusters : goal.invariant-clusters
invariant-clusters l = record {
  walk : IsWalk l.text l.walk;
  so_far : IsEdgeSoFar l.text l.fn.from.position l.fn.columns l.walk.position l.left;
}

abbrev pub decreases-clusters : goal.decreases-clusters
decreases-clusters l = length (plain l.text) - l.walk.position
