use Rattle.std.proofs.Common.{◌-◌, length}
use Rattle.ansi_clusters.specs.Letters.{IsPlainFront}
use Rattle.ansi_clusters.proofs.letters.plain_front.Given as goal

-- what was passed is such characters
abbrev pub invariant-parts : goal.invariant-parts
invariant-parts l = IsPlainFront l.run l.at l.columns

abbrev pub decreases-parts : goal.decreases-parts
decreases-parts l = length l.run - l.at
