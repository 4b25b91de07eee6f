use Rattle.std.proofs.Common.{◌+◌, ◌≤◌, length}
use Rattle.std.specs.Str.{IsUtf8}
use Rattle.ansi_clusters.proofs.from_end.split_first_seen.Given as goal

abbrev pub invariant-left_out : goal.invariant-left_out
invariant-left_out l = record {
  within : length l.rest + length l.run ≤ length l.text + length l.end;
  rest_utf8 : IsUtf8 l.rest;
  run_utf8 : IsUtf8 l.run;
}

abbrev pub decreases-left_out : goal.decreases-left_out
decreases-left_out l = length l.rest + length l.run
