use Rattle.std.proofs.Common.{◌≡◌, ◌≢◌, ℕ, IsTrue, ◌+◌, ◌*◌, ◌-◌, ◌<◌, ◌≤◌, [], length, slice_range}
use Rattle.ansi_safe.specs.Safe.{is_printing}
use Rattle.ansi_clusters.specs.declared.views.View.{View}
use Rattle.ansi_clusters.specs.Walks.{IsWalkIn}
use Rattle.ansi_clusters.proofs.AddedWalkLemmas.{IsExtendedTo}
use Rattle.ansi_clusters.proofs.SingleWalkLemmas.{walk_past}
use Rattle.ansi_clusters.proofs.walks.Walk.next_extended.Given as goal

-- the cluster goes on up to here, if the run does
abbrev pub invariant-added : goal.invariant-added
invariant-added l = record {
  first : ℕ;
  extended : (view : View) → IsWalkIn view l.text l.self → l.chars.rest.now ≢ [] → IsExtendedTo view l.text l.self (walk_past l.self l.len l.break_state) first l.columns;
  solid : first ≢ 0x20;
  printing : IsTrue (is_printing first);
  rest : slice_range l.text (l.self.offset + l.len) l.self.run_end ≡ l.chars.rest.now;
  size : l.len + length l.chars.rest.now ≡ l.self.run_end - l.self.offset;
  some : 0 < l.columns;
  bound : l.columns ≤ 2 * l.len;
}
