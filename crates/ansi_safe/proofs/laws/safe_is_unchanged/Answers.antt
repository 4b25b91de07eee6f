use Rattle.ansi_safe.proofs.MadeLemmas.{sanitized-safe}
use Rattle.ansi_safe.proofs.laws.safe_is_unchanged.Goals as goal

pub returns : goal.returns
returns c = sanitized-safe
