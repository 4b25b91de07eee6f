-- What a fake device holds, and how its next calls end.
use Rattle.std.specs.Prelude.{◌≤◌, ℕ, List, Bool}
use Rattle.ansi_io.specs.declared.fake_device.Outcome.{Outcome}

-- a device has bytes; how many of them are read and passed on; its counts of reads and flushes; its room; the most bytes of a read; the outcomes of its next calls; and whether a call was interrupted, failed, or found it closed
pub record FakeDeviceState : Type 0 where
  pub bytes : List ℕ
  pub read : ℕ
  pub flushed : ℕ
  pub reads : ℕ
  pub flushes : ℕ
  pub room : ℕ
  pub chunk : ℕ
  pub schedule : List Outcome
  pub interrupted : Bool
  pub failed : Bool
  pub closed : Bool

-- a device has read at most its bytes, has at most as many bytes as its room, and has allocated its room
pub record IsWithinRoom (read len room capacity : ℕ) : Type 0 where
  pub read_within : read ≤ len
  pub len_within : len ≤ room
  pub room_within : room ≤ capacity
