use Rattle.std.proofs.Common.{◌≡◌, ◌∙◌, sym, arith, string_bytes}
use Rattle.std.specs.Cow.{cow_str_bytes}
use Rattle.std.proofs.lemmas.List.{nil_from_length}
use Rattle.std.proofs.lemmas.Result.{IfOk-weaker}
use Rattle.ansi_view_runs.specs.SafeJobs.{work_of}
use Rattle.ansi_view_runs.specs.Views.{changed_line}
use Rattle.ansi_view_runs.proofs.StageLemmas.{last-line}
use Rattle.ansi_view_runs.proofs.ended.edit_line.Goals as goal

-- without a wrap
pub returns-in_ok-edit_in_turn-in-empty : goal.returns-in_ok-edit_in_turn-in-empty
returns-in_ok-edit_in_turn-in-empty g c =
    let job = c.args.job.now in
    let short = c.in-empty.len_below in
    let none = sym c.as_slice.ensures.value ∙ nil_from_length c.as_slice.result.now (omega (arith, short)) in
    IfOk-weaker c.end_text.result _ (λ s. string_bytes s ≡ changed_line (work_of job).changes (cow_str_bytes c.args.text) c.args.end.now)
    (λ s is. is ∙ last-line job.stages.items c.as_slice-last.result.now job.last.items (cow_str_bytes c.args.text) _ c.args.end.now none c.as_slice-last.ensures.value c.in_ok-edit_in_turn-in-empty.ensures.bytes) c.end_text.ensures
