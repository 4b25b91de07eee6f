use Rattle.std.proofs.Common.{◌∙◌, sym}
use Rattle.ansi_text_calls.specs.Replacements.{new_text}
use Rattle.ansi_text_calls.proofs.StepLemmas.{text-good, text-bad}
use Rattle.ansi_text_calls.proofs.replacements.are_texts_utf8.Goals as goal

pub returns-in_default : goal.returns-in_default
returns-in_default c = sym (c.loop-entry.invariant ∙ text-bad new_text c.args.entries.now c.loop-entry.entry-index _ c.loop-entry-test.true c.in_default.ensures)

pub loop-entry-preserved : goal.loop-entry-preserved
loop-entry-preserved c = c.loop-entry.invariant ∙ text-good new_text c.args.entries.now c.loop-entry.entry-index _ c.loop-entry-test.true c.in-Ok.ensures.1
