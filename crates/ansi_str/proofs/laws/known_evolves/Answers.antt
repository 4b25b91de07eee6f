use Rattle.ansi_style.proofs.SgrLemmas.{apply-known}
use Rattle.ansi_str.proofs.laws.known_evolves.Goals as goal

pub returns : goal.returns
returns c = apply-known
