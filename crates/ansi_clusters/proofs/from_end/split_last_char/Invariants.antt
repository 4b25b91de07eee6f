use Rattle.std.proofs.Common.{◌≡◌, ◌+◌, ◌≤◌, ◌++◌, length}
use Rattle.std.specs.Str.{IsUtf8}
use Rattle.ansi_items.specs.Plain.{plain}
use Rattle.ansi_clusters.proofs.from_end.split_last_char.Given as goal

-- the plain bytes are those that there were
abbrev pub invariant-runs : goal.invariant-runs
invariant-runs l = record {
  bytes : plain l.rest ++ l.run ≡ plain l.text ++ l.end;
  within : length l.rest + length l.run ≤ length l.text + length l.end;
  rest_utf8 : IsUtf8 l.rest;
  run_utf8 : IsUtf8 l.run;
}

abbrev pub decreases-runs : goal.decreases-runs
decreases-runs l = length l.rest
