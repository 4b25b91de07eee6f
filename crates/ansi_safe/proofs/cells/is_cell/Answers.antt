use Rattle.std.proofs.Common.{sym, ◌∙◌}
use Rattle.ansi_safe.specs.declared.cells.Place.TheVariants.{Cell}
use Rattle.ansi_safe.proofs.CellLemmas.{placed-stays, placed_stays}
use Rattle.ansi_safe.proofs.cells.is_cell.Goals as goal

pub returns : goal.returns
returns c =
    let t = c.args.text.now in
    let is = c.is_placed.ensures in
    (λ true. placed-stays Cell t c.utf8.text (sym is ∙ true), λ same. is ∙ placed_stays Cell t c.utf8.text same)
