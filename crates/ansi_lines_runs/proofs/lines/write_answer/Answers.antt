use Rattle.std.proofs.Common.{rules}
use Rattle.ansi_lines_runs.proofs.lines.write_answer.Goals as goal

-- the result of the edits is written
pub returns-in_ok-write-in-Edits-clause-done : goal.returns-in_ok-write-in-Edits-clause-done
returns-in_ok-write-in-Edits-clause-done g c = search rules
