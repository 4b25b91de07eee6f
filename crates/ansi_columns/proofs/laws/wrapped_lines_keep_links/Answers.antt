use Rattle.ansi_cells.proofs.WrapLawLemmas.{wrapped-linked, wrapped_end_links}
use Rattle.ansi_columns.proofs.laws.wrapped_lines_keep_links.Goals as goal

pub returns-clause-linked : goal.returns-clause-linked
returns-clause-linked c t width utf8 = wrapped-linked t width (c.cells_are_safe.ensures.paragraph t utf8)

pub returns-clause-left_open : goal.returns-clause-left_open
returns-clause-left_open c t width utf8 = wrapped_end_links t width (c.cells_are_safe.ensures.paragraph t utf8)
