use Rattle.ansi_view_runs.specs.Words.{view_asked}
use Rattle.ansi_view_runs.proofs.AskedLemmas.{utf8_tails-asked, safe_tails-asked}
use Rattle.ansi_view_runs.proofs.PromiseLemmas.{view_of-viewed}
use Rattle.ansi_view_runs.proofs.laws.view_keeps_its_promise.Goals as goal

pub returns-clause-asked : goal.returns-clause-asked
returns-clause-asked c = λ words input are. view_of-viewed (view_asked words) (utf8_tails-asked words are) (safe_tails-asked words are) input

pub returns-clause-of_work : goal.returns-clause-of_work
returns-clause-of_work c = λ work input utf8 tails. view_of-viewed work utf8 tails input
