use Rattle.ansi_io.proofs.stop.Stop.tell.Goals as goal

-- the fault writer is only asked to write the line
pub returns-clause-flushes : goal.returns-clause-flushes
returns-clause-flushes g c = c.write_line.ensures.flushes
