use Rattle.std.proofs.Common.{◌≡◌, ◌++◌, ◌∙◌, refl, rules, sym, ap, string_bytes}
use Rattle.ansi_view_runs.specs.SafeJobs.{work_of}
use Rattle.ansi_view_runs.specs.LineViews.{line_of}
use Rattle.ansi_view_runs.specs.Views.{shown, viewed}
use Rattle.ansi_view_runs.proofs.StayLemmas.{viewed-unchanged}
use Rattle.ansi_view_runs.proofs.runs.write_unedited.Goals as goal

-- a line that stays as it is
pub returns-then-stays-clause-written : goal.returns-then-stays-clause-written
returns-then-stays-clause-written g c =
    let work = work_of c.args.job.now in
    let opening = string_bytes c.args.opening.now in
    let line = line_of c.args.line.now in
    let stays : shown work.view opening line ≡ c.args.text.now = ap (λ o. shown work.view o line) (sym c.as_str.ensures.value) ∙ c.if-stays.ensures.bytes refl in
    let becomes : c.args.text.now ++ line.end ≡ viewed work opening line
    = ap (λ t. t ++ line.end) (sym stays) ∙ sym (viewed-unchanged work opening line c.requires.unedited) in
    rw (sym becomes) (search rules)
