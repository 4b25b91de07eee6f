use Rattle.ansi_view_runs.specs.Words.{view_asked}
use Rattle.ansi_view_runs.proofs.AskedLemmas.{utf8_tails-asked}
use Rattle.ansi_view_runs.proofs.PolicyLemmas.{view_of-policy}
use Rattle.ansi_view_runs.proofs.SafeViewLemmas.{view_of-safe}
use Rattle.ansi_view_runs.proofs.laws.view_is_safe.Goals as goal

pub returns-clause-asked : goal.returns-clause-asked
returns-clause-asked c = λ words input are. view_of-safe (view_asked words) (utf8_tails-asked words are) input

pub returns-clause-safe : goal.returns-clause-safe
returns-clause-safe c = λ work input tails. view_of-safe work tails input

pub returns-clause-policy : goal.returns-clause-policy
returns-clause-policy c = λ work input utf8 tails. view_of-policy work utf8 tails input
