use Rattle.std.proofs.Common.{◌≡◌, ◌++◌, length, fold, string_bytes}
use denote.Text.{Utf8}
use denote.Shadow.{shadow}
use Rattle.ansi_cells.specs.Tabs.{run_expanded, since_stop}
use Rattle.ansi_cells.proofs.tabs.push_run.Given as goal

-- what is written and what becomes of what is left are what was there and what becomes of the run
abbrev pub invariant-stops : goal.invariant-stops
invariant-stops g l = record {
  left_is_text : shadow (Utf8 l.left);
  written : string_bytes l.out ++ run_expanded l.stop (string_bytes l.since) l.left ≡ string_bytes l.fn.out ++ run_expanded l.stop (string_bytes l.fn.since) l.run;
  since : fold since_stop (string_bytes l.since) l.left ≡ fold since_stop (string_bytes l.fn.since) l.run;
}

abbrev pub decreases-stops : goal.decreases-stops
decreases-stops g l = length l.left
