-- The status and the text of a run that ends early.
use Rattle.std.specs.Prelude.{◌==◌, ◌++◌, ℕ, List, [], codes, if◌then◌else◌}
use Rattle.std.specs.declared.io.ErrorKind.{ErrorKind}
use Rattle.ansi_io.specs.declared.devices.WriteFault.{WriteFault}
use Rattle.ansi_io.specs.declared.devices.WriteFault.TheVariants as write_fault
use Rattle.ansi_view_runs.specs.Causes.{text_of_cause}
use Rattle.ansi_view_runs.specs.declared.stop.Stop.{Stop}
use Rattle.ansi_view_runs.specs.declared.stop.Stop.TheVariants.{Closed, ReadFailed, WriteFailed, OutOfMemory}

-- a closed output ends a run, and any other fault of it fails the run
abbrev pub stop_after : WriteFault → Stop
stop_after write_fault.Closed = Closed
stop_after write_fault.Failed = WriteFailed

-- each failure has a status of its own, and a closed output is none
abbrev pub status_of : Stop → ℕ
status_of Closed = 0
status_of ReadFailed = 3
status_of WriteFailed = 4
status_of OutOfMemory = 5

-- a failure and its cause, as one line
abbrev pub line_of_failure : List ℕ → ErrorKind → List ℕ
line_of_failure failure cause = failure ++ text_of_cause cause ++ codes "\n"

-- each failure has a text of its own, which is one line; a failed read or write has its cause
abbrev pub message_of : ℕ → ErrorKind → ErrorKind → List ℕ
message_of status read written =
    if status == 3 then line_of_failure (codes "read failed: ") read
    else if status == 4 then line_of_failure (codes "write failed: ") written
    else if status == 5 then codes "out of memory\n"
    else []
