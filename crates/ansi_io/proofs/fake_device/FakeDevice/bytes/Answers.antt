use Rattle.ansi_io.proofs.fake_device.FakeDevice.bytes.Goals as goal

-- all of the bytes
pub returns : goal.returns
returns c = cc
