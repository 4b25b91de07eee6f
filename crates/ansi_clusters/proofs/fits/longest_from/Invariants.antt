use Rattle.std.proofs.Common.{◌-◌, length}
use Rattle.ansi_items.specs.Plain.{plain}
use Rattle.ansi_clusters.specs.Walks.{IsFitted}
use Rattle.ansi_clusters.proofs.fits.longest_from.Given as goal

-- the text before the walk fits
abbrev pub invariant-clusters : goal.invariant-clusters
invariant-clusters l = IsFitted l.view l.text l.width l.fitted

abbrev pub decreases-clusters : goal.decreases-clusters
decreases-clusters l = length (plain l.text) - l.fitted.walk.position
