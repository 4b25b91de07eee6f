use Rattle.ansi_wraps.proofs.LeftOutLawLemmas.{lines-begin, lines-left_out, lines-reassembled}
use Rattle.ansi_columns.proofs.laws.lines_lose_blanks_and_line_ends.Goals as goal

pub returns-clause-begin : goal.returns-clause-begin
returns-clause-begin c = lines-begin

pub returns-clause-left_out : goal.returns-clause-left_out
returns-clause-left_out c = lines-left_out

pub returns-clause-text : goal.returns-clause-text
returns-clause-text c = lines-reassembled
