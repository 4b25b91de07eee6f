use Rattle.std.proofs.Common.{◌∙◌}
use Rattle.ansi_lines_runs.specs.Runs.{words_of}
use Rattle.ansi_view_runs.proofs.StageLemmas.{first_stage, last-pushed, stage-begun, stage-lines}
use Rattle.ansi_view_runs.proofs.edits.+push_edited.Goals as goal

-- no stage is left
pub returns-in_default : goal.returns-in_default
returns-in_default g t c = last-pushed c.args.stages.now c.args.last.now c.args.text.now _ _ _ c.in_default.len_below c.in_ok-push.ensures.items (c.in_ok-into_owned.ensures.ok ∙ c.in_ok-edited.ensures.bytes)

-- the lines of the first stage
pub lines-init : goal.lines-init
lines-init g t c =
    let stage = c.stage-item.result in
    let lines = stage-lines c.as_slice.result.now stage.edits.items c.at-to.result.width stage.width c.at-to.result.first_indent.now c.at-to.result.indent.now c.args.text.now c.in_ok-lines.lines
    c.as_slice.ensures.value c.at-to.ensures.width c.at-to.ensures.first_indent c.at-to.ensures.indent c.in_ok-lines.ensures.bytes in
    record {
      appended = stage-begun c.args.stages.now _ stage c.args.last.now c.args.text.now (words_of c.args.made.now.items) c.in_ok-lines.lines (first_stage c.args.stages.now stage c.in-len1-up.len_at_least c.stage-item.is) lines;
    }
