use Rattle.std.proofs.Common.{rules}
use Rattle.ansi_io.proofs.fake_device.FakeDeviceSink.write.Goals as goal

-- bytes that there is room for are within the room
pub invariant_of-self : goal.invariant_of-self
invariant_of-self c = search rules

pub returns-then-is_ok-clause-outcome : goal.returns-then-is_ok-clause-outcome
returns-then-is_ok-clause-outcome c = search rules
