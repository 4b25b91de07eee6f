use Rattle.ansi_cells.proofs.BareLemmas.{bare-fits}
use Rattle.ansi_cells.proofs.bare.truncate_bare.Goals as goal

-- the text fits

pub returns-in-Some-clause-truncated : goal.returns-in-Some-clause-truncated
returns-in-Some-clause-truncated c = (bare-fits c.args.tail.now c.utf8.text c.in-Some.ensures.bare).truncated_is

pub returns-in-Some-clause-fitted : goal.returns-in-Some-clause-fitted
returns-in-Some-clause-fitted c = (bare-fits c.args.tail.now c.utf8.text c.in-Some.ensures.bare).fitted_is
