use Rattle.ansi_io.proofs.stop.Stop.write_line.Goals as goal

-- lack of memory has its own line
pub returns-in-OutOfMemory-clause-told : goal.returns-in-OutOfMemory-clause-told
returns-in-OutOfMemory-clause-told g c = rw c.in-OutOfMemory.is c.write-in-OutOfMemory.ensures.taken
