use Rattle.std.proofs.Common.{[], refl, arith}
use Rattle.ansi_clusters.proofs.AsciiLemmas.{columns-printable}
use Rattle.ansi_cells.proofs.shown.beside.Goals as goal

-- no tail has no columns
pub returns-then-width-columns-clause-sum : goal.returns-then-width-columns-clause-sum
returns-then-width-columns-clause-sum c = omega (arith, columns-printable [] refl)
