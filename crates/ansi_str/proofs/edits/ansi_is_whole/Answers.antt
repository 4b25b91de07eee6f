use Rattle.std.proofs.Common.{arith}
use Rattle.std.proofs.lemmas.Grind.{common_steps}
use Rattle.ansi_str.proofs.edits.ansi_is_whole.Goals as goal

-- a lone escape is left
pub returns-then-eq : goal.returns-then-eq
returns-then-eq c = grind (arith, common_steps)
