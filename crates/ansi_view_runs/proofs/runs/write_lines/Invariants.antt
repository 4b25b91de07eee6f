use Rattle.std.proofs.Common.{◌≡◌, length, string_bytes}
use Rattle.ansi_view_runs.specs.SafeJobs.{work_of}
use Rattle.ansi_view_runs.specs.Runs.{to_come, Shows, KeepsFlags}
use Rattle.ansi_view_runs.proofs.runs.write_lines.Given as goal

-- what the lines so far become is written, and what the rest becomes is still to come
abbrev pub invariant-loop-line : goal.invariant-loop-line
invariant-loop-line g l =
    let sink = g.W.Sink in
    record {
      shows : Shows (to_come (work_of l.job) (string_bytes l.fn.opening) l.bytes) (to_come (work_of l.job) (string_bytes l.opening) l.rest) (sink.taken l.fn.output) (sink.taken l.output);
      flushes : sink.flushes l.output ≡ sink.flushes l.fn.output;
      flags : KeepsFlags (sink.failed l.fn.output) (sink.failed l.output) (sink.closed l.fn.output) (sink.closed l.output);
    }

abbrev pub decreases-loop-line : goal.decreases-loop-line
decreases-loop-line g l = length l.rest
