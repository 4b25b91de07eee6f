use Rattle.std.proofs.Common.{◌∙◌}
use Rattle.ansi_clusters.proofs.SingleLemmas.{break_state-single}
use Rattle.ansi_clusters.proofs.break_state.BreakState.after_single.Goals as goal

pub returns : goal.returns
returns c before = c.of.ensures ∙ break_state-single c.args.c before c.single_value.result c.requires c.single_value.ensures
