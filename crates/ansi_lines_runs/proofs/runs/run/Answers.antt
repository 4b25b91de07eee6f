use Rattle.std.proofs.Common.{arith}
use Rattle.ansi_lines_runs.proofs.runs.run.Goals as goal

-- a run that is done returns 0, and has flushed once
pub returns-in-Ok-clause-bad_input : goal.returns-in-Ok-clause-bad_input
returns-in-Ok-clause-bad_input g c = λ three. absurd (omega arith)

pub returns-in-Ok-clause-write_failed : goal.returns-in-Ok-clause-write_failed
returns-in-Ok-clause-write_failed g c = λ four. absurd (omega arith)

pub returns-in-Ok-clause-flushed_once : goal.returns-in-Ok-clause-flushed_once
returns-in-Ok-clause-flushed_once g c = λ done. c.in-Ok.ensures.flushed.2
