use Rattle.ansi_slice.proofs.Common.{arith}
use Rattle.ansi_slice.proofs.StretchLemmas.{keeps-end}
use Rattle.ansi_slice.proofs.TrimWalkLemmas.{trimmed-stretch}
use Rattle.ansi_slice.proofs.slice.kept.write_trimmed.Goals as goal

-- the sequences up to the first character that stays, the stretch up to the last and the sequences after it are what is kept
pub returns : goal.returns
returns g c = grind (arith, trimmed-stretch, keeps-end)
