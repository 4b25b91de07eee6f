use Rattle.std.proofs.Common.{sym, ◌∙◌, ap}
use Rattle.ansi_clusters.specs.BreakStates.{state_of}
use Rattle.ansi_clusters.proofs.AddedLemmas.{added-value-sara_am, added-value-other}
use Rattle.ansi_clusters.proofs.break_state.BreakState.after_added.Goals as goal

pub returns-then-c-eq3635 : goal.returns-then-c-eq3635
returns-then-c-eq3635 c = c.of.ensures ∙ ap state_of (sym (added-value-sara_am c.args.c c.if-c-eq3635.true))

pub returns-else-c-eq3635 : goal.returns-else-c-eq3635
returns-else-c-eq3635 c = c.of-else-c-eq3635.ensures ∙ ap state_of (sym (added-value-other c.args.c c.requires.0 c.requires.1 c.if-c-eq3635.false))
