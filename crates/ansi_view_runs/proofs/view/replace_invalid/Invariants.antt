use Rattle.std.proofs.Common.{◌≡◌, ◌++◌, length, string_bytes}
use Rattle.std.specs.Str.Lossy.{utf8_lossy}
use Rattle.ansi_view_runs.proofs.view.replace_invalid.Given as goal

-- the text so far, with the text of the bytes that are left, is the text of all the bytes
abbrev pub invariant-pieces : goal.invariant-pieces
invariant-pieces g l = record {
  replaced : string_bytes l.text ++ utf8_lossy l.rest ≡ utf8_lossy l.bytes;
}

abbrev pub decreases-pieces : goal.decreases-pieces
decreases-pieces g l = length l.rest
