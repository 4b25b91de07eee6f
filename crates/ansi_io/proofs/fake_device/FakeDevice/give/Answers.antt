use Rattle.std.proofs.Common.{rules}
use Rattle.ansi_io.proofs.fake_device.FakeDevice.give.Goals as goal

-- the count of bytes read grows by those given
pub returns-clause-device : goal.returns-clause-device
returns-clause-device c = search rules
