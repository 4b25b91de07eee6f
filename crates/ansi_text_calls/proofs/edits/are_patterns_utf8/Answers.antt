use Rattle.std.proofs.Common.{◌∙◌, sym}
use Rattle.ansi_text_calls.specs.Steps.{pattern_of}
use Rattle.ansi_text_calls.proofs.StepLemmas.{text-good, text-bad}
use Rattle.ansi_text_calls.proofs.edits.are_patterns_utf8.Goals as goal

pub returns-in_default : goal.returns-in_default
returns-in_default c = sym (c.loop-step.invariant ∙ text-bad pattern_of c.args.steps.now c.loop-step.step-index _ c.loop-step-test.true c.in_default.ensures)

pub loop-step-preserved : goal.loop-step-preserved
loop-step-preserved c = c.loop-step.invariant ∙ text-good pattern_of c.args.steps.now c.loop-step.step-index _ c.loop-step-test.true c.in-Ok.ensures.1
