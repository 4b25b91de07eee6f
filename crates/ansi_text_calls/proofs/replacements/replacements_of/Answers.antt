use Rattle.ansi_text_calls.specs.Replacements.{new_text}
use Rattle.ansi_text_calls.proofs.StepLemmas.{text-at}
use Rattle.ansi_text_calls.proofs.replacements.replacements_of.Goals as goal

pub from_utf8_unchecked-with-requires : goal.from_utf8_unchecked-with-requires
from_utf8_unchecked-with-requires g c = text-at new_text c.args.entries.now c.loop-entry.entry-index _ c.loop-entry-test.true c.requires
