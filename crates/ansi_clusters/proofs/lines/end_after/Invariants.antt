use Rattle.std.proofs.Common.{◌≡◌, ◌≤◌, take}
use Rattle.ansi_clusters.specs.Words.{end_after}
use Rattle.ansi_clusters.proofs.lines.end_after.Given as goal

-- only blanks have been left out
abbrev pub invariant-blanks : goal.invariant-blanks
invariant-blanks l = record {
  within : l.count ≤ l.len;
  same : end_after l.bytes l.here.position l.end.position ≡ end_after (take l.count l.bytes) l.here.position l.end.position;
}

abbrev pub decreases-blanks : goal.decreases-blanks
decreases-blanks l = l.count
