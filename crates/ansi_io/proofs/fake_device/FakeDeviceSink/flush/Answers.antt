use Rattle.std.proofs.Common.{rules, ap, arith, Some}
use Rattle.std.proofs.lemmas.List.{take_all}
use Rattle.ansi_io.proofs.fake_device.FakeDeviceSink.flush.Goals as goal

-- all bytes taken are passed on
pub returns-then-eq-clause-flushed : goal.returns-then-eq-clause-flushed
returns-then-eq-clause-flushed c = ap Some (take_all _ _ (omega arith))

pub returns-then-eq-clause-device : goal.returns-then-eq-clause-device
returns-then-eq-clause-device c = search rules
