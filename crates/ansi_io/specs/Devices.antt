-- How a read changes what a source reports, and how calls are counted.
use Rattle.std.specs.Prelude.{◌≡◌, ◌<◌, ◌+◌, ℕ, List, length, take, min, ⊤, Bool, true, false, Option, Result, Ok, Err}
use Rattle.std.specs.Io.KnownBytes.{prepend_known, IsAtEnd}
use Rattle.std.specs.IoError.{error_kind}
use Rattle.std.specs.declared.io.Error.{Error}
use Rattle.std.specs.declared.io.ErrorKind.{ErrorKind}
use Rattle.std.specs.declared.io.ErrorKind.TheVariants as kind
use Rattle.ansi_io.specs.declared.devices.ReadFault.{ReadFault}
use Rattle.ansi_io.specs.declared.devices.ReadFault.TheVariants.{Interrupted, Failed}
use Rattle.ansi_io.specs.declared.devices.WriteFault.{WriteFault}
use Rattle.ansi_io.specs.declared.devices.WriteFault.TheVariants as write_fault

-- an error of a reader of std is an interruption if it has that kind, and otherwise a failure
abbrev pub fault_of : ErrorKind → ReadFault
fault_of kind.Interrupted = Interrupted
fault_of _ = Failed

-- an error of a writer of std finds the device closed if it has that kind, and otherwise it is a failure
abbrev pub write_fault_of : ErrorKind → WriteFault
write_fault_of kind.BrokenPipe = write_fault.Closed
write_fault_of _ = write_fault.Failed

-- the result of a read of std, with the fault in place of the error
abbrev pub read_result : Result ℕ Error → Result ℕ ReadFault
read_result (Ok count) = Ok count
read_result (Err error) = Err (fault_of (error_kind error))

-- the result of a write or a flush of std, with the fault in place of the error
abbrev pub write_result : Result (Unit {0}) Error → Result (Unit {0}) WriteFault
write_result (Ok done) = Ok done
write_result (Err error) = Err (write_fault_of (error_kind error))

-- the kind of the last error: that of this result, if it is one
abbrev pub cause_after : {T : Type 0} → ErrorKind → Result T Error → ErrorKind
cause_after last (Ok done) = last
cause_after last (Err error) = error_kind error

-- the result of a write or a flush says whether it found the device closed
abbrev pub was_closed : Result (Unit {0}) WriteFault → Bool
was_closed (Ok done) = false
was_closed (Err write_fault.Closed) = true
was_closed (Err write_fault.Failed) = false

-- the result of a read says whether the read was interrupted
abbrev pub was_interrupted : Result ℕ ReadFault → Bool
was_interrupted (Ok count) = false
was_interrupted (Err Interrupted) = true
was_interrupted (Err Failed) = false

-- the result of a read says whether the read failed
abbrev pub was_failed : Result ℕ ReadFault → Bool
was_failed (Ok count) = false
was_failed (Err Interrupted) = false
was_failed (Err Failed) = true

-- a read takes the bytes that it gives, and returns 0 only at the end or without room; an interrupted read takes none
abbrev pub Reads : Option (List ℕ) → Option (List ℕ) → Result ℕ ReadFault → List ℕ → Type 0
Reads old new (Ok count) room =
    (old ≡ prepend_known (take count room) new) × (count ≡ 0 → 0 < length room → IsAtEnd new)
Reads old new (Err Interrupted) room = new ≡ old
Reads old new (Err Failed) room = ⊤

-- a count of calls after more calls; it stops at the largest u32
abbrev pub count_after : ℕ → ℕ → ℕ
count_after calls more = min (calls + more) 4_294_967_295
