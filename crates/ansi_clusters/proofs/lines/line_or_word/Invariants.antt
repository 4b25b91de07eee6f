use Rattle.std.proofs.Common.{◌-◌, length}
use Rattle.ansi_items.specs.Plain.{plain}
use Rattle.ansi_clusters.proofs.LineReadLemmas.{IsLineRead}
use Rattle.ansi_clusters.proofs.lines.line_or_word.Given as goal

-- the line is read up to here
abbrev pub invariant-clusters : goal.invariant-clusters
invariant-clusters l = IsLineRead l.view l.text l.width l.start l.end_before l.word l.end l.here l.columns

abbrev pub decreases-clusters : goal.decreases-clusters
decreases-clusters l = length (plain l.text) - l.here.position
