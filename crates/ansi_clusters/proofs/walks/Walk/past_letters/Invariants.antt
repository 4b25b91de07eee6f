use Rattle.std.proofs.Common.{◌≡◌, ◌≤◌, ◌-◌, ◌++◌, length, slice_range, encode_utf8, IsFalse}
use Rattle.ansi_items.specs.Plain.{plain}
use Rattle.ansi_clusters.specs.declared.views.View.{View}
use Rattle.ansi_clusters.specs.BreakStates.{IsShownSingle}
use Rattle.ansi_clusters.specs.Walks.{IsWalkIn, IsPastClusters}
use Rattle.ansi_clusters.specs.Words.{ArePastLetters}
use Rattle.ansi_clusters.proofs.walks.Walk.past_letters.Given as goal

-- each character before the walk is a cluster by itself, and c, which is single, is next
abbrev pub invariant-characters : goal.invariant-characters
invariant-characters l = record {
  past : (view : View) → IsWalkIn view l.text l.fn.self → IsPastClusters view l.text l.fn.self l.walk l.columns;
  most : l.columns ≤ l.most;
  word : IsFalse l.blanks → (view : View) → IsWalkIn view l.text l.fn.self → ArePastLetters view l.text l.fn.self l.walk l.columns;
  rest : slice_range l.text l.walk.offset l.walk.run_end ≡ encode_utf8 l.c ++ l.chars.rest.now;
  shown : IsShownSingle l.c l.width;
}

abbrev pub decreases-characters : goal.decreases-characters
decreases-characters l = length (plain l.text) - l.walk.position
