use Rattle.std.proofs.Common.{sym, ◌∙◌}
use Rattle.ansi_clusters.proofs.SingleLemmas.{pictograph-other}
use Rattle.ansi_clusters.proofs.break_state.is_pictograph.Goals as goal

pub returns-else-is_other : goal.returns-else-is_other
returns-else-is_other c value = c.if-is_other.false ∙ pictograph-other c.args.c c.args.value value (sym c.is_other.ensures ∙ c.if-is_other.false)
