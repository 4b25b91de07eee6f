use Rattle.ansi_cells.proofs.WrapLawLemmas.{wrapped_are_whole, wrapped_are_closed}
use Rattle.ansi_columns.proofs.laws.wrapped_lines_are_whole.Goals as goal

pub returns-clause-whole : goal.returns-clause-whole
returns-clause-whole c t width utf8 = wrapped_are_whole t width (c.cells_are_safe.ensures.paragraph t utf8)

pub returns-clause-closed : goal.returns-clause-closed
returns-clause-closed c t width utf8 = wrapped_are_closed t width (c.cells_are_safe.ensures.paragraph t utf8)
