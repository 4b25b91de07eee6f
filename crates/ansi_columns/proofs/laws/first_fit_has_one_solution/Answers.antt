use Rattle.ansi_clusters.proofs.FirstFitLemmas.{lines-first_fit}
use Rattle.ansi_columns.proofs.FirstFitLawLemmas.{first_fit-unique}
use Rattle.ansi_columns.proofs.laws.first_fit_has_one_solution.Goals as goal

pub returns-clause-lines : goal.returns-clause-lines
returns-clause-lines c = λ x width. lines-first_fit width x

pub returns-clause-unique : goal.returns-clause-unique
returns-clause-unique c = first_fit-unique
