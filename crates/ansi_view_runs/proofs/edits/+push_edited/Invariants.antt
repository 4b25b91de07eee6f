use Rattle.std.proofs.Common.{◌≡◌, ◌++◌, length}
use Rattle.std.specs.Prelude.{map}
use Rattle.std.specs.List.{flat_map}
use Rattle.ansi_lines_runs.specs.Runs.{words_of}
use Rattle.ansi_view_runs.specs.Edits.{changed_in_turn}
use Rattle.ansi_view_runs.specs.SafeJobs.{changes_then}
use Rattle.ansi_view_runs.proofs.edits.+push_edited.Given as goal

-- what is made of the lines so far is appended, and the others are still to come
abbrev pub invariant-lines : goal.invariant-lines
invariant-lines g l = record {
  appended : words_of l.made.items ++ flat_map (changed_in_turn (changes_then l.more l.last)) (map (λ w. w.bytes) l.lines)
      ≡ words_of l.fn.made.items ++ changed_in_turn (changes_then l.stages l.last) l.text;
}

abbrev pub decreases-lines : goal.decreases-lines
decreases-lines g l = length l.lines

-- each stage makes one stage fewer
abbrev pub decreases-push_edited : goal.decreases-push_edited
decreases-push_edited g l = length l.stages.now
