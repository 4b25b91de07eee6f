use Rattle.std.proofs.Common.{◌≡◌, [], ◌∷◌, ◌++◌, length, string_bytes}
use Rattle.std.specs.Prelude.{map}
use Rattle.std.specs.List.{flat_map, join_by}
use Rattle.ansi_view_runs.specs.Edits.{changed_in_turn}
use Rattle.ansi_view_runs.specs.SafeJobs.{changes_then}
use Rattle.ansi_view_runs.specs.Views.{line_break}
use Rattle.ansi_view_runs.proofs.ended.wrap_line.Given as goal

-- the lines so far are joined, and each of the others follows a line break
abbrev pub invariant-lines : goal.invariant-lines
invariant-lines g l = record {
  joined : string_bytes l.made ++ flat_map (λ t. line_break l.end ++ t) (map (λ w. w.bytes) l.lines) ≡ join_by (λ t. t) (line_break l.end) (changed_in_turn (changes_then (l.stage ∷ []) []) l.text);
}

abbrev pub decreases-lines : goal.decreases-lines
decreases-lines g l = length l.lines
