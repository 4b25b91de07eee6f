use Rattle.std.proofs.Common.{refl}
use Rattle.ansi_style.proofs.CloseLemmas.{close_clears}
use Rattle.ansi_str.proofs.laws.close_clears.Goals as goal

pub returns-clause-from_itself : goal.returns-clause-from_itself
returns-clause-from_itself c = λ s. close_clears s s refl

pub returns-clause-from_known : goal.returns-clause-from_known
returns-clause-from_known c = close_clears
