use Rattle.ansi_style.proofs.Common.{sym, ◌∙◌}
use Rattle.ansi_style.proofs.StateLemmas.{apply-code}
use Rattle.ansi_style.proofs.styles.apply.Goals as goal

pub returns-in-Some : goal.returns-in-Some
returns-in-Some c = c.change.ensures ∙ sym (apply-code _ c.args.sequence.now c.parameters-parameters.result.now c.in-Some.code c.parameters-parameters.ensures c.in-Some.ensures.field c.in-Some.ensures.code)
