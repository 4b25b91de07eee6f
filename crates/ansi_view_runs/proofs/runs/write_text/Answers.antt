use Rattle.std.proofs.Common.{refl, ◌∙◌, string_bytes}
use Rattle.std.specs.Cow.{cow_str_bytes}
use Rattle.ansi_view_runs.specs.SafeJobs.{work_of}
use Rattle.ansi_view_runs.specs.LineViews.{line_of}
use Rattle.ansi_view_runs.proofs.StayLemmas.{viewed-changed}
use Rattle.ansi_view_runs.proofs.runs.write_text.Goals as goal

-- a text that stays as it is is edited
pub returns-then-stays-clause-written : goal.returns-then-stays-clause-written
returns-then-stays-clause-written g c =
    let becomes = viewed-changed (work_of c.args.job.now) (string_bytes c.args.opening.now) c.as_str.result.now (line_of c.args.line.now) (work_of c.args.job.now).changes (cow_str_bytes c.args.text)
    refl c.as_str.ensures.value (c.if-stays.ensures.bytes refl ∙ c.as_str-2.ensures.value) in
    rw becomes at c.write_edited.ensures
