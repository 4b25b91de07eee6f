use Rattle.ansi_cells.proofs.widths.width.Goals as goal

pub walked_width-requires-clause-walk : goal.walked_width-requires-clause-walk
walked_width-requires-clause-walk c = (rw c.in_default-Some.is-1 at c.plain_runs.ensures).is_walk c.args.view

pub walked_width-requires-clause-counted : goal.walked_width-requires-clause-counted
walked_width-requires-clause-counted c = (rw c.in_default-Some.is-1 at c.plain_runs.ensures).counted c.args.view
