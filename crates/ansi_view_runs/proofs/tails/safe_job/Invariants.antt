use Rattle.std.proofs.Common.{◌≡◌, ◌++◌, length}
use Rattle.ansi_lines_runs.specs.Runs.{words_of}
use Rattle.ansi_view_runs.specs.Edits.{changes_of, with_tails}
use Rattle.ansi_view_runs.specs.SafeJobs.{changes_then}
use Rattle.ansi_view_runs.proofs.tails.safe_job.Given as goal

-- the edits so far, and the others with the tails that are left, are all of them
abbrev pub invariant-loop-left : goal.invariant-loop-left
invariant-loop-left g l = record {
  so_far : changes_then l.stages.items l.edits.items ++ with_tails (words_of l.tails_left) (changes_of l.left) ≡ with_tails (words_of l.tails) (changes_of l.job.edits.items);
}

abbrev pub decreases-loop-left : goal.decreases-loop-left
decreases-loop-left g l = length l.left
