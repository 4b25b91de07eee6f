use Rattle.std.proofs.Common.{◌∙◌, ◌++◌, ap, sym, string_bytes}
use Rattle.ansi_view_runs.specs.SafeJobs.{work_of}
use Rattle.ansi_view_runs.specs.LineViews.{line_of}
use Rattle.ansi_view_runs.proofs.StayLemmas.{viewed-unchanged}
use Rattle.ansi_view_runs.proofs.view.view_decoded.Goals as goal

-- there are no edits
pub returns-then-edits_nothing-clause-bytes : goal.returns-then-edits_nothing-clause-bytes
returns-then-edits_nothing-clause-bytes g c =
    c.in_ok-push_str.ensures.bytes
    ∙ ap (λ t. t ++ c.args.line.now.end.now) c.in_ok-text.ensures.bytes
    ∙ sym (viewed-unchanged (work_of c.args.job.now) (string_bytes c.args.opening.now) (line_of c.args.line.now) (c.edits_nothing.ensures c.if-edits_nothing.true))
