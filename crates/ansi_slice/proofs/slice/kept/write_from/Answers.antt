use Rattle.ansi_slice.proofs.Common.{arith}
use Rattle.ansi_slice.proofs.StretchLemmas.{kept-rest}
use Rattle.ansi_slice.proofs.slice.kept.write_from.Goals as goal

-- the sequences up to there and the rest are what is kept from there on
pub returns : goal.returns
returns g c = grind (arith, kept-rest)
