use Rattle.ansi_cells.proofs.WrapLawLemmas.{wrapped-styled}
use Rattle.ansi_columns.proofs.laws.wrapped_lines_keep_styles.Goals as goal

pub returns : goal.returns
returns c t width utf8 = wrapped-styled t width (c.cells_are_safe.ensures.paragraph t utf8)
