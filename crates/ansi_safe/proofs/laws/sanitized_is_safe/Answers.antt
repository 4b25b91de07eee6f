use Rattle.ansi_safe.proofs.SafeLemmas.{sanitized-is_safe, sanitized-is_closed, ending-sanitized, sanitized-again}
use Rattle.ansi_safe.proofs.laws.sanitized_is_safe.Goals as goal

pub returns-clause-safe : goal.returns-clause-safe
returns-clause-safe c = sanitized-is_safe

pub returns-clause-closed : goal.returns-clause-closed
returns-clause-closed c = sanitized-is_closed

pub returns-clause-ended : goal.returns-clause-ended
returns-clause-ended c = ending-sanitized

pub returns-clause-again : goal.returns-clause-again
returns-clause-again c = sanitized-again
