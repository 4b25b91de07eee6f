use Rattle.std.proofs.Common.{◌∙◌, string_bytes}
use Rattle.ansi_view_runs.specs.SafeJobs.{work_of}
use Rattle.ansi_view_runs.specs.LineViews.{line_of}
use Rattle.ansi_view_runs.specs.Runs.{to_come}
use Rattle.ansi_view_runs.specs.Views.{viewed}
use Rattle.ansi_view_runs.proofs.Shown.{Shows-more, to_come-line}
use Rattle.ansi_view_runs.proofs.runs.write_lines.Goals as goal

-- what one more line becomes is written
pub loop-line-preserved : goal.loop-line-preserved
loop-line-preserved g c =
    let work = work_of c.args.job.now in
    let before = string_bytes c.loop-line.opening in
    let after = string_bytes c.write_line.new.opening in
    let wrote = c.in_ok-write_line.ensures in
    record {
      shows = Shows-more {after = to_come work after c.in-Some.after.now} _ (viewed work before (line_of c.in-Some.line)) c.loop-line.invariant.shows wrote.written.all
          (to_come-line work before after c.loop-line.rest.now c.in-Some.after.now (line_of c.in-Some.line) c.in-Some.ensures.first wrote.opening);
      flushes = wrote.written.unflushed ∙ c.loop-line.invariant.flushes;
      flags = record { failed = wrote.written.flags.failed ∙ c.loop-line.invariant.flags.failed; closed = wrote.written.flags.closed ∙ c.loop-line.invariant.flags.closed };
    }
