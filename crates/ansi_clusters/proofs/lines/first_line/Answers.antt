use Rattle.std.proofs.Common.{refl, arith}
use Rattle.ansi_clusters.proofs.lines.first_line.Goals as goal

pub indents-init : goal.indents-init
indents-init c = record { from_is = c.requires; ordered = omega arith; lines = refl }
