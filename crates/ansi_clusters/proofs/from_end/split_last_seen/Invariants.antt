use Rattle.std.proofs.Common.{◌≡◌, ◌+◌, ◌≤◌, ◌++◌, length}
use Rattle.std.specs.Str.{chars, IsUtf8}
use Rattle.ansi_items.specs.Plain.{plain}
use Rattle.ansi_clusters.specs.Views.{seen}
use Rattle.ansi_clusters.proofs.from_end.split_last_seen.Given as goal

-- what is seen of what is left is what was seen
abbrev pub invariant-left_out : goal.invariant-left_out
invariant-left_out l = record {
  same : seen l.view (chars (plain l.rest ++ l.run)) ≡ seen l.view (chars (plain l.text ++ l.end));
  within : length l.rest + length l.run ≤ length l.text + length l.end;
  rest_utf8 : IsUtf8 l.rest;
  run_utf8 : IsUtf8 l.run;
}

abbrev pub decreases-left_out : goal.decreases-left_out
decreases-left_out l = length l.rest + length l.run
