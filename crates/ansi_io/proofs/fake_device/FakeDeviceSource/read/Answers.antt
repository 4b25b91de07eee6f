use Rattle.ansi_io.proofs.FakeDeviceLemmas.{reads_front}
use Rattle.ansi_io.proofs.fake_device.FakeDeviceSource.read.Goals as goal

-- the schedule is all that differs before the bytes are given
pub returns-in-Works-clause-bytes : goal.returns-in-Works-clause-bytes
returns-in-Works-clause-bytes c =
    let device = c.args.self.now in
    rw (c.give.ensures.bytes, c.give.ensures.device, c.start_read.ensures.device)
    (reads_front device.bytes c.args.room.now device.read c.give.result device.chunk (rw c.start_read.ensures.device at c.give.ensures.count))
