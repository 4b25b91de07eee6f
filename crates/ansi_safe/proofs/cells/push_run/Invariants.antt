use Rattle.std.proofs.Common.{◌≡◌, ◌++◌, length, chars, encode_utf8_all, string_bytes}
use denote.Text.{Utf8}
use denote.Shadow.{shadow}
use Rattle.ansi_safe.specs.Cells.{run_in}
use Rattle.ansi_safe.proofs.cells.push_run.Given as goal

-- what is written and what is made of what is left are what was there and what is made of all
abbrev pub invariant-loop-c : goal.invariant-loop-c
invariant-loop-c g l = record {
  left_is_text : shadow (Utf8 l.left);
  written : string_bytes l.out ++ encode_utf8_all (run_in l.place (chars l.left)) ≡ string_bytes l.fn.out ++ encode_utf8_all (run_in l.place (chars l.run));
}

abbrev pub decreases-loop-c : goal.decreases-loop-c
decreases-loop-c g l = length (chars l.left)
