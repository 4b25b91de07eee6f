use Rattle.std.proofs.lemmas.Bool.{eqb-true, leb-true}
use Rattle.ansi_cells.specs.Shown.{closed_cell}
use Rattle.ansi_view_runs.proofs.PlainLineLemmas.{left-truncated, left-padded, left-fitted}
use Rattle.ansi_view_runs.proofs.plain_lines.PlainLine.is_left_by_edit.Goals as goal

pub returns-in-Truncate : goal.returns-in-Truncate
returns-in-Truncate c fits =
    let line = c.requires in
    rw c.in-Truncate.is (left-truncated line.utf8 line.is_cell line.closed c.in-Truncate.side c.in-Truncate.width (closed_cell c.in-Truncate.tail.now) (leb-true c.args.self.now.columns c.in-Truncate.width fits))

pub returns-in-Pad : goal.returns-in-Pad
returns-in-Pad c full =
    let line = c.requires in
    rw c.in-Pad.is (left-padded line.utf8 line.is_cell line.closed c.in-Pad.width c.in-Pad.alignment (leb-true c.in-Pad.width c.args.self.now.columns full))

pub returns-in-Fit : goal.returns-in-Fit
returns-in-Fit c same =
    let line = c.requires in
    rw c.in-Fit.is (left-fitted line.utf8 line.is_cell line.closed c.in-Fit.width c.in-Fit.alignment (closed_cell c.in-Fit.tail.now) (eqb-true c.args.self.now.columns c.in-Fit.width same))
