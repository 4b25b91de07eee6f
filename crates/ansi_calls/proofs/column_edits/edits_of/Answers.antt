use Rattle.ansi_calls.specs.ColumnSteps.{tail_of}
use Rattle.ansi_text_calls.proofs.StepLemmas.{text-at}
use Rattle.ansi_calls.proofs.column_edits.edits_of.Goals as goal

pub from_utf8_unchecked-tail-requires : goal.from_utf8_unchecked-tail-requires
from_utf8_unchecked-tail-requires g c = text-at tail_of c.args.steps.now c.loop-step.step-index _ c.loop-step-test.true c.requires
