use Rattle.std.proofs.Common.{◌≡◌, length, chars}
use denote.Text.{Utf8}
use denote.Shadow.{shadow}
use Rattle.ansi_safe.specs.Cells.{run_stays}
use Rattle.ansi_safe.proofs.cells.run_stays.Given as goal

-- what is left decides
abbrev pub invariant-loop-c : goal.invariant-loop-c
invariant-loop-c l = record {
  left_is_text : shadow (Utf8 l.left);
  decides : run_stays l.place (chars l.run) ≡ run_stays l.place (chars l.left);
}

abbrev pub decreases-loop-c : goal.decreases-loop-c
decreases-loop-c l = length (chars l.left)
