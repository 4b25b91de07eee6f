use Rattle.ansi_slice.proofs.Common.{arith}
use Rattle.std.proofs.lemmas.Grind.{common_steps}
use Rattle.ansi_slice.proofs.slice.sides.write_mark.Goals as goal

-- what is no SGR is written
pub returns-clause-bytes : goal.returns-clause-bytes
returns-clause-bytes g c = grind (arith, common_steps)
