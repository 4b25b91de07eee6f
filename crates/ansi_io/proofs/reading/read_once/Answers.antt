use Rattle.ansi_io.proofs.reading.read_once.Goals as goal

-- an interrupted read isn't an error, and isn't the end
pub returns-in-Err-Interrupted-clause-failed : goal.returns-in-Err-Interrupted-clause-failed
returns-in-Err-Interrupted-clause-failed g c = tt

pub returns-in-Err-Interrupted-clause-end : goal.returns-in-Err-Interrupted-clause-end
returns-in-Err-Interrupted-clause-end g c = tt
