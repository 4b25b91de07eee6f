use Rattle.ansi_style.proofs.NumbersLemmas.{same_bytes}
use Rattle.ansi_style.proofs.laws.exact_numbers_are_determined.Goals as goal

pub returns : goal.returns
returns c = same_bytes
