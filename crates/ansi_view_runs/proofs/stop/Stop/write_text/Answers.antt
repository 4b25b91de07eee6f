use Rattle.ansi_view_runs.proofs.stop.Stop.write_text.Goals as goal

-- each failure has its own line
pub returns-in-ReadFailed-clause-told : goal.returns-in-ReadFailed-clause-told
returns-in-ReadFailed-clause-told g c = rw (c.in-ReadFailed.is, ← c.text_of.ensures) c.write_message.ensures.told

pub returns-in-WriteFailed-clause-told : goal.returns-in-WriteFailed-clause-told
returns-in-WriteFailed-clause-told g c = rw (c.in-WriteFailed.is, ← c.text_of-in-WriteFailed.ensures) c.write_message-in-WriteFailed.ensures.told

pub returns-in-OutOfMemory-clause-told : goal.returns-in-OutOfMemory-clause-told
returns-in-OutOfMemory-clause-told g c = rw c.in-OutOfMemory.is c.write.ensures.taken
