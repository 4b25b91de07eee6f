use Rattle.ansi_safe.proofs.MadeLemmas.{whole-safe}
use Rattle.ansi_safe.proofs.laws.safe_is_whole.Goals as goal

pub returns : goal.returns
returns c = whole-safe
