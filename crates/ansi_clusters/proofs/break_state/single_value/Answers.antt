use Rattle.std.proofs.Common.{sym, ◌∙◌}
use Rattle.ansi_clusters.proofs.SingleLemmas.{single-elsewhere}
use Rattle.ansi_clusters.proofs.break_state.single_value.Goals as goal

pub returns-else-is_syllable : goal.returns-else-is_syllable
returns-else-is_syllable c = single-elsewhere c.args.c c.requires.break (sym c.is_syllable.ensures ∙ c.if-is_syllable.false)
