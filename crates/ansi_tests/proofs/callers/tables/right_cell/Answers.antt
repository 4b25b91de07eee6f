use Rattle.std.proofs.Common.{◌∙◌, refl, ap}
use Rattle.std.specs.Prelude.{codes}
use Rattle.std.proofs.lemmas.Result.{IfOk-weaker}
use Rattle.ansi_str.specs.Plain.{plain}
use Rattle.ansi_safe.specs.Cells.{cell}
use Rattle.ansi_clusters.specs.Columns.{columns}
use Rattle.ansi_cells.specs.Fitted.{fitted}
use Rattle.ansi_cells.specs.declared.shown.Alignment.TheVariants.{Right}
use Rattle.ansi_tests.proofs.callers.tables.right_cell.Goals as goal

-- the law for this tail, which stays as it is
pub returns : goal.returns
returns c = λ printable.
    let t = c.args.text.now in
    let tail = codes "..." in
    let stays = ap (λ u. columns (plain (fitted (cell t) c.args.width Right u))) (c.printable_tails_stay.ensures tail refl) in
    let wide = c.fitted_is_as_wide.ensures.columns t c.args.width Right tail c.utf8.text printable refl refl in
    IfOk-weaker c.fit.result _ _ (λ s is. ap (λ u. columns (plain u)) is ∙ stays ∙ wide) c.fit.ensures.bytes
