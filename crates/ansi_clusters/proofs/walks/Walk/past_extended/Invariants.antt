use Rattle.std.proofs.Common.{◌-◌, ◌≤◌, length}
use Rattle.ansi_items.specs.Plain.{plain}
use Rattle.ansi_clusters.specs.declared.views.View.{View}
use Rattle.ansi_clusters.specs.Walks.{IsWalkIn}
use Rattle.ansi_clusters.specs.Words.{ArePastLetters}
use Rattle.ansi_clusters.proofs.walks.Walk.past_extended.Given as goal

-- the clusters up to here are of a word
abbrev pub invariant-clusters : goal.invariant-clusters
invariant-clusters l = record {
  walk : (view : View) → IsWalkIn view l.text l.fn.self → IsWalkIn view l.text l.walk;
  past : (view : View) → IsWalkIn view l.text l.fn.self → ArePastLetters view l.text l.fn.self l.walk l.columns;
  most : l.columns ≤ l.most;
}

abbrev pub decreases-clusters : goal.decreases-clusters
decreases-clusters l = length (plain l.text) - l.walk.position
