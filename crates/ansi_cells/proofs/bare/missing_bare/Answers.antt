use Rattle.ansi_cells.proofs.BareLemmas.{bare-padded}
use Rattle.ansi_cells.proofs.bare.missing_bare.Goals as goal

pub returns : goal.returns
returns c alignment = bare-padded c.args.width c.in_ok-front.ensures.bare c.saturating_sub.ensures alignment
