use Rattle.std.proofs.Common.{◌≡◌, ◌-◌, ◌≤◌, [], length}
use Rattle.ansi_items.specs.Plain.{plain}
use Rattle.ansi_clusters.specs.Walks.{seen_cluster, IsWalkIn}
use Rattle.ansi_clusters.proofs.walks.Walk.next_seen.Given as goal

-- nothing has been seen up to here
abbrev pub invariant-left_out : goal.invariant-left_out
invariant-left_out l = record {
  walk : IsWalkIn l.view l.text l.walk;
  ordered : l.fn.self.position ≤ l.walk.position;
  none : seen_cluster l.view l.text l.fn.self.position l.walk.position ≡ [];
}

abbrev pub decreases-left_out : goal.decreases-left_out
decreases-left_out l = length (plain l.text) - l.walk.position
