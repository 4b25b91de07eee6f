use Rattle.std.proofs.Common.{◌≡◌, ◌≤◌, ◌+◌, length}
use denote.Text.{Utf8}
use denote.Shadow.{shadow}
use Rattle.ansi_lines_runs.specs.Jobs.{work_of}
use Rattle.ansi_lines_runs.specs.Lines.{answers, first_refused}
use Rattle.ansi_lines_runs.proofs.Written.{HasWritten}
use Rattle.ansi_lines_runs.proofs.lines.write_lines.Given as goal

-- the results of the lines so far are written, those of the rest aren't, and no line so far is refused
abbrev pub invariant-loop-line : goal.invariant-loop-line
invariant-loop-line g l =
    let taken = g.W.Sink.taken in
    let work = work_of l.job in
    record {
      text : shadow (Utf8 l.rest);
      written : HasWritten (taken l.fn.output) (taken l.output) (answers work l.text) (answers work l.rest);
      none_refused : first_refused 1 work l.text ≡ first_refused l.number work l.rest;
      counted : l.number + length l.rest ≤ 1 + length l.text;
      flushes : g.W.Sink.flushes l.output ≡ g.W.Sink.flushes l.fn.output;
      unfailed : g.W.Sink.failed l.output ≡ g.W.Sink.failed l.fn.output;
    }

abbrev pub decreases-loop-line : goal.decreases-loop-line
decreases-loop-line g l = length l.rest
