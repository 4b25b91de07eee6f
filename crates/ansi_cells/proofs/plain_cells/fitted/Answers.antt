use Rattle.ansi_clusters.specs.declared.views.View.TheVariants.{Shown}
use Rattle.ansi_cells.proofs.plain_cells.fitted.Goals as goal

pub returns-2 : goal.returns-2
returns-2 c = c.start.ensures.fitted Shown
