use Rattle.ansi_columns.proofs.ShownGapLemmas.{shown-begin, shown-left_out, shown-reassembled, shown_lines-unique}
use Rattle.ansi_columns.proofs.laws.shown_lines_lose_blanks_and_line_ends.Goals as goal

pub returns-clause-begin : goal.returns-clause-begin
returns-clause-begin c = λ x width utf8. shown-begin x utf8 width

pub returns-clause-left_out : goal.returns-clause-left_out
returns-clause-left_out c = λ x width utf8. shown-left_out x utf8 width

pub returns-clause-text : goal.returns-clause-text
returns-clause-text c = λ x width utf8. shown-reassembled x utf8 width

pub returns-clause-unique : goal.returns-clause-unique
returns-clause-unique c = shown_lines-unique
