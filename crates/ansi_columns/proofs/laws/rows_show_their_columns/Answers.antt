use Rattle.ansi_cells.proofs.RowLemmas.{screen-row}
use Rattle.ansi_columns.proofs.RowScreenLemmas.{joined-screen, fitting-screen, columns-screen, blanks-screen}
use Rattle.ansi_columns.proofs.laws.rows_show_their_columns.Goals as goal

pub returns-clause-text : goal.returns-clause-text
returns-clause-text c = screen-row

pub returns-clause-joined : goal.returns-clause-joined
returns-clause-joined c = joined-screen

pub returns-clause-fitting : goal.returns-clause-fitting
returns-clause-fitting c = fitting-screen

pub returns-clause-columns : goal.returns-clause-columns
returns-clause-columns c = columns-screen

pub returns-clause-blanks : goal.returns-clause-blanks
returns-clause-blanks c = blanks-screen
