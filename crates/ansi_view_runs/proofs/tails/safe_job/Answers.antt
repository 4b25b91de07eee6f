use Rattle.std.proofs.Common.{◌≡◌, ◌∙◌, ◌∷◌, [], ◌++◌, ap, ap₂}
use Rattle.ansi_columns.specs.Edits as columns
use Rattle.ansi_lines_runs.specs.Runs.{words_of}
use Rattle.ansi_view_runs.specs.declared.edits.LineEdit.TheVariants as edit
use Rattle.ansi_view_runs.specs.Edits.{OnColumns, changes_of, with_tail, with_tails}
use Rattle.ansi_view_runs.specs.Jobs as jobs
use Rattle.ansi_view_runs.specs.SafeJobs.{changes_then}
use Rattle.ansi_view_runs.proofs.StageLemmas.{then-edit, then-stage}
use Rattle.ansi_view_runs.proofs.TailLemmas.{tails-own, work-made, tails-next, edits-done, tails-done}
use Rattle.ansi_view_runs.proofs.tails.safe_job.Goals.{in_default, in-len1-up+in_default-tails_left}
use Rattle.ansi_view_runs.proofs.tails.safe_job.Goals as goal

-- each edit has its own tail, made safe
pub returns : goal.returns
returns g c =
    let job = c.args.job.now in
    let changes = changes_of job.edits.items in
    let tails = words_of c.args.tails.now in
    let made = changes_then c.loop-left.stages.items c.loop-left.edits.items in
    let done : made ≡ with_tails tails changes = elim c.if-left-lt1.branch [
      | in_default w ↦ edits-done made _ (words_of c.loop-left.tails_left.now) c.loop-left.left.now w.in_default.len_below c.loop-left.invariant.so_far
      | in-len1-up+in_default-tails_left w ↦ tails-done made _ c.loop-left.tails_left.now (changes_of c.loop-left.left.now) w.in_default-tails_left.len_below c.loop-left.invariant.so_far
    ] in
    work-made (jobs.work_of job) made (done ∙ ap (λ ts. with_tails ts changes) c.requires ∙ tails-own job.view.policy changes)

-- one more edit by columns
pub loop-left-preserved-in_ok-push-in-Columns : goal.loop-left-preserved-in_ok-push-in-Columns
loop-left-preserved-in_ok-push-in-Columns g c =
    let stages = c.loop-left.stages.items in
    let edits = c.loop-left.edits.items in
    let tail = c.tail-item.result in
    let made = ap (changes_then stages) c.in_ok-push-in-Columns.ensures.items ∙ then-edit stages edits c.with_column_tail.result
    ∙ ap (λ change. changes_then stages edits ++ change ∷ []) (c.with_column_tail.ensures ∙ ap (λ t. with_tail t (OnColumns (columns.change_of c.in-Columns.edit))) c.as_str.ensures.value) in
    record {
      so_far = tails-next _ (changes_then stages edits) _ c.loop-left.tails_left.now c.loop-left.left.now tail (edit.Columns c.in-Columns.edit) _
          c.in-len1-up-tails_left.len_at_least c.in-len1-up.len_at_least c.tail-item.is c.in-Columns.is made c.loop-left.invariant.so_far;
    }

-- one more wrap
pub loop-left-preserved : goal.loop-left-preserved
loop-left-preserved g c =
    let stages = c.loop-left.stages.items in
    let edits = c.loop-left.edits.items in
    let made = ap₂ (λ ss es. changes_then ss es) c.in_ok-push-in-Wrap.ensures.items c.new-edits-in-Wrap.ensures.items ∙ then-stage stages _ in
    record {
      so_far = tails-next _ (changes_then stages edits) _ c.loop-left.tails_left.now c.loop-left.left.now c.tail-item.result (edit.Wrap c.in-Wrap.width) _
          c.in-len1-up-tails_left.len_at_least c.in-len1-up.len_at_least c.tail-item.is c.in-Wrap.is made c.loop-left.invariant.so_far;
    }
