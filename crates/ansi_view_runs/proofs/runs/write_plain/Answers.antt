use Rattle.std.proofs.Common.{◌≡◌, ◌++◌, ◌∙◌, [], sym, ap}
use Rattle.ansi_view_runs.specs.LineViews.{line_of}
use Rattle.ansi_view_runs.specs.SafeJobs.{work_of}
use Rattle.ansi_view_runs.specs.Views.{changed_line, viewed}
use Rattle.ansi_view_runs.proofs.runs.write_plain.Goals as goal

-- the edits leave it
pub returns-then-is_left_by : goal.returns-then-is_left_by
returns-then-is_left_by g c =
    let work = work_of c.args.job.now in
    let line = line_of c.args.line.now in
    let becomes : c.args.plain.text.now ++ line.end ≡ viewed work [] line
    = sym (c.is_left_by.ensures c.if-is_left_by.true line.end) ∙ ap (λ t. changed_line work.changes t line.end) (sym c.requires.shown) in
    rw becomes at c.write_at_once.ensures
