use Rattle.std.proofs.Common.{chars, ap, ◌∙◌}
use Rattle.std.specs.List.{list_all}
use Rattle.std.proofs.lemmas.Result.{IfOk-weaker}
use Rattle.ansi_items.specs.Plain.{plain}
use Rattle.ansi_safe.specs.declared.cells.Place.TheVariants.{Cell}
use Rattle.ansi_safe.specs.declared.policy.Links.TheVariants.{Keep}
use Rattle.ansi_safe.specs.Safe.{is_safe}
use Rattle.ansi_safe.specs.Cells.{stays_in}
use Rattle.ansi_safe.proofs.CellLemmas.{placed-is_safe, placed-stays_in}
use Rattle.ansi_safe.proofs.cells.cell_of.Goals as goal

pub returns-clause-safe : goal.returns-clause-safe
returns-clause-safe g c =
    IfOk-weaker c.text_in.result _ _ (λ s is. ap (is_safe Keep) is ∙ placed-is_safe Cell c.args.text.now c.utf8.text) c.text_in.ensures.bytes

pub returns-clause-one_line : goal.returns-clause-one_line
returns-clause-one_line g c =
    IfOk-weaker c.text_in.result _ _ (λ s is. ap (λ u. list_all (stays_in Cell) (chars (plain u))) is ∙ placed-stays_in Cell c.args.text.now c.utf8.text) c.text_in.ensures.bytes
