use Rattle.ansi_cells.proofs.IndentLawLemmas.{shut-wrapped_with}
use Rattle.ansi_columns.proofs.laws.indented_lines_are_closed.Goals as goal

pub returns-clause-whole : goal.returns-clause-whole
returns-clause-whole c t first later width utf8 first_utf8 later_utf8 = λ k d lt. (shut-wrapped_with t first later width (c.cells_are_safe.ensures.paragraph t utf8) first_utf8 later_utf8 k d lt).whole

pub returns-clause-closed : goal.returns-clause-closed
returns-clause-closed c t first later width utf8 first_utf8 later_utf8 = λ k d lt. (shut-wrapped_with t first later width (c.cells_are_safe.ensures.paragraph t utf8) first_utf8 later_utf8 k d lt).closed
