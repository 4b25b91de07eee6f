use Rattle.ansi_io.proofs.stop.Stop.status.Goals as goal

-- a bad input has the status 3
pub returns-in-BadInput : goal.returns-in-BadInput
returns-in-BadInput c = rw c.in-BadInput.is
