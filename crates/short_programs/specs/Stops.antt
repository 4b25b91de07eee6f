-- The status of a program, and of one that ends early.
use Rattle.std.specs.Prelude.{ℕ, Result, Ok, Err}
use Rattle.short_programs.specs.declared.Stop.{Stop}
use Rattle.short_programs.specs.declared.Stop.TheVariants.{OutputClosed, BadWords, Failed}

-- a closed output ends a program as the signal SIGPIPE would, number 13, and bad words have the status 2; `failed` is that of a failure
abbrev pub status_of : ℕ → Stop → ℕ
status_of failed OutputClosed = 141
status_of failed (BadWords why) = 2
status_of failed (Failed why) = failed

-- the status of a program that is done, or ends early
abbrev pub status_after : ℕ → Result ℕ Stop → ℕ
status_after failed (Ok status) = status
status_after failed (Err stop) = status_of failed stop
