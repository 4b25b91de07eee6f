use Rattle.ansi_cells.proofs.BreakLawLemmas.{clusters-add_up, columns-add_up}
use Rattle.ansi_columns.proofs.laws.columns_add_up.Goals as goal

pub returns-clause-clusters : goal.returns-clause-clusters
returns-clause-clusters c = clusters-add_up

pub returns-clause-columns : goal.returns-clause-columns
returns-clause-columns c = columns-add_up
