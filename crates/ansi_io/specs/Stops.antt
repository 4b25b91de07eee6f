-- The status and the text of a run that ends early.
use Rattle.std.specs.Prelude.{◌++◌, ℕ, List, codes, decimal}
use Rattle.ansi_io.specs.declared.stop.Stop.{Stop}
use Rattle.ansi_io.specs.declared.stop.Stop.TheVariants.{Refused, BadWords, BadInput, WriteFailed, OutOfMemory}

-- each reason to end early has a status of its own
abbrev pub status_of : Stop → ℕ
status_of (Refused line) = 1
status_of BadWords = 2
status_of BadInput = 3
status_of WriteFailed = 4
status_of OutOfMemory = 5

-- a refused line is reported by its number
abbrev pub refusal : ℕ → List ℕ
refusal line = codes "line " ++ decimal line ++ codes ": refused\n"

-- each reason to end early has a text of its own, which is one line
abbrev pub message_of_stop : Stop → List ℕ
message_of_stop (Refused line) = refusal line
message_of_stop BadWords = codes "bad words\n"
message_of_stop BadInput = codes "bad input\n"
message_of_stop WriteFailed = codes "write failed\n"
message_of_stop OutOfMemory = codes "out of memory\n"
