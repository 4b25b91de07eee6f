use Rattle.std.proofs.Common.{◌*◌, ◌-◌, ◌≤◌, length}
use Rattle.ansi_items.specs.Plain.{plain}
use Rattle.ansi_clusters.specs.Views.{IsTight}
use Rattle.ansi_clusters.specs.Walks.{IsWalkIn, seen_cluster}
use Rattle.ansi_clusters.proofs.AddedLemmas.{AreKnown}
use Rattle.ansi_clusters.proofs.ClusterWalkLemmas.{IsClusterTo}
use Rattle.ansi_clusters.proofs.walks.Walk.cluster_from.Given as goal

-- the cluster goes on up to here
abbrev pub invariant-cluster : goal.invariant-cluster
invariant-cluster l = record {
  walk : IsWalkIn l.view l.text l.walk;
  so_far : IsClusterTo l.view l.text l.self.position l.walk.position;
  tight : IsTight l.view l.text l.walk.position;
  ordered : l.fn.after_first.position ≤ l.walk.position;
  known : AreKnown l.columns (seen_cluster l.view l.text l.self.position l.walk.position) l.fn.first (2 * (l.walk.position - l.self.position));
}

abbrev pub decreases-cluster : goal.decreases-cluster
decreases-cluster l = length (plain l.text) - l.walk.position
