use Rattle.std.proofs.Common.{sym, ◌∙◌, ap}
use Rattle.ansi_items.specs.Plain.{plain}
use Rattle.ansi_clusters.specs.Columns.{columns}
use Rattle.ansi_cells.proofs.BareLemmas.{columns-ellipsis}
use Rattle.ansi_cells.proofs.shown.tail_width.Goals as goal

-- that of an ellipsis
pub returns-then-is_ellipsis : goal.returns-then-is_ellipsis
returns-then-is_ellipsis c =
    sym (ap (λ t. columns (plain t)) (c.is_ellipsis.ensures c.if-is_ellipsis.true) ∙ columns-ellipsis)
