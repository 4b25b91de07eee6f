use Rattle.std.proofs.Common.{◌≡◌, length}
use Rattle.ansi_clusters.specs.declared.views.View.TheVariants.{Given}
use Rattle.ansi_clusters.specs.Columns.{columns_of}
use Rattle.ansi_clusters.specs.Walks.{clusters_from, IsNextRun, IsWalk}
use Rattle.ansi_cells.proofs.slices.has_column.Given as goal

-- no column is before the walk
abbrev pub invariant-clusters : goal.invariant-clusters
invariant-clusters l = record {
  walk : IsWalk l.text l.walk;
  next : IsNextRun Given l.text l.walk l.run;
  same : columns_of (clusters_from l.text l.fn.from.position) ≡ columns_of (clusters_from l.text l.walk.position);
}

abbrev pub decreases-clusters : goal.decreases-clusters
decreases-clusters l = length (clusters_from l.text l.walk.position)
