use Rattle.std.proofs.Common.{ap, ◌∙◌}
use Rattle.std.proofs.lemmas.Result.{IfOk-weaker}
use Rattle.ansi_safe.specs.declared.cells.Place.TheVariants.{Paragraph}
use Rattle.ansi_safe.specs.declared.policy.Links.TheVariants.{Keep}
use Rattle.ansi_safe.specs.Safe.{is_safe}
use Rattle.ansi_safe.proofs.CellLemmas.{placed-is_safe}
use Rattle.ansi_safe.proofs.cells.paragraph_of.Goals as goal

pub returns-clause-safe : goal.returns-clause-safe
returns-clause-safe g c =
    IfOk-weaker c.text_in.result _ _ (λ s is. ap (is_safe Keep) is ∙ placed-is_safe Paragraph c.args.text.now c.utf8.text) c.text_in.ensures.bytes
