-- How the calls of a fake device end, and the device after them.
use Rattle.std.specs.Prelude.{◌+◌, ◌++◌, ◌||◌, ℕ, List, [], ◌∷◌, length, drop, min, max, nat_le, false, is_ok, is_err, Result, Ok, Err, if◌then◌else◌}
use Rattle.std.specs.Result.{result_unwrap_or}
use Rattle.ansi_io.specs.declared.devices.ReadFault.{ReadFault}
use Rattle.ansi_io.specs.declared.devices.ReadFault.TheVariants as read_fault
use Rattle.ansi_io.specs.declared.devices.WriteFault.{WriteFault}
use Rattle.ansi_io.specs.declared.devices.WriteFault.TheVariants as write_fault
use Rattle.ansi_io.specs.declared.fake_device.Outcome.{Outcome}
use Rattle.ansi_io.specs.declared.fake_device.Outcome.TheVariants.{Works, Interrupted, Failed, Closed}
use Rattle.ansi_io.specs.Devices.{was_interrupted, was_failed, was_closed, count_after}
use Rattle.ansi_io.specs.FakeDeviceStates.{FakeDeviceState}

-- a new device has read, passed on and scheduled nothing, no read and no flush was made, and one read may give all of its bytes
abbrev pub fresh_device : List ℕ → ℕ → FakeDeviceState
fresh_device bytes room = record {
  bytes = bytes;
  read = 0;
  flushed = 0;
  reads = 0;
  flushes = 0;
  room = room;
  chunk = room;
  schedule = [];
  interrupted = false;
  failed = false;
  closed = false;
}

-- the bytes of a device that aren't read yet
abbrev pub bytes_left : FakeDeviceState → List ℕ
bytes_left device = drop device.read device.bytes

-- the first of these outcomes is the next call's, and after the last one every call works
abbrev pub first_outcome : List Outcome → Outcome
first_outcome [] = Works
first_outcome (outcome ∷ more) = outcome

-- how the next call of a device ends
abbrev pub next_outcome : FakeDeviceState → Outcome
next_outcome device = first_outcome device.schedule

-- a read gives the bytes left, at most as many as the reader has room for, and at most a chunk, which is at least one byte
abbrev pub count_given : FakeDeviceState → ℕ → ℕ
count_given device room = min (min (length (bytes_left device)) room) (max device.chunk 1)

-- a read that works gives this many bytes
abbrev pub read_comes_to : Outcome → ℕ → Result ℕ ReadFault
read_comes_to Works count = Ok count
read_comes_to Interrupted count = Err read_fault.Interrupted
read_comes_to Failed count = Err read_fault.Failed
read_comes_to Closed count = Err read_fault.Failed

-- the fault of a write or a flush with this outcome
abbrev pub fault_after : Outcome → WriteFault
fault_after Works = write_fault.Failed
fault_after Interrupted = write_fault.Failed
fault_after Failed = write_fault.Failed
fault_after Closed = write_fault.Closed

-- a flush succeeds if the call works
abbrev pub flush_comes_to : Outcome → Result (Unit {0}) WriteFault
flush_comes_to Works = Ok tt
flush_comes_to outcome = Err (fault_after outcome)

-- a write succeeds if the call works and the device has room for its length after the write
abbrev pub write_comes_to : Outcome → ℕ → ℕ → Result (Unit {0}) WriteFault
write_comes_to Works len room = if nat_le len room then Ok tt else Err write_fault.Failed
write_comes_to outcome len room = flush_comes_to outcome

-- a read moves on by the bytes that it gave
abbrev pub device_after_read : FakeDeviceState → Result ℕ ReadFault → FakeDeviceState
device_after_read device result = record device {
  read = device.read + result_unwrap_or result 0;
  reads = count_after device.reads 1;
  schedule = drop 1 device.schedule;
  interrupted = device.interrupted || was_interrupted result;
  failed = device.failed || was_failed result;
}

-- a write that succeeds appends its bytes to the device's
abbrev pub device_after_write : FakeDeviceState → List ℕ → Result (Unit {0}) WriteFault → FakeDeviceState
device_after_write device more result = record device {
  bytes = if is_ok result then device.bytes ++ more else device.bytes;
  schedule = drop 1 device.schedule;
  failed = device.failed || is_err result;
  closed = device.closed || was_closed result;
}

-- a flush that succeeds passes on all of the device's bytes
abbrev pub device_after_flush : FakeDeviceState → Result (Unit {0}) WriteFault → FakeDeviceState
device_after_flush device result = record device {
  flushed = if is_ok result then length device.bytes else device.flushed;
  flushes = count_after device.flushes 1;
  schedule = drop 1 device.schedule;
  failed = device.failed || is_err result;
  closed = device.closed || was_closed result;
}
