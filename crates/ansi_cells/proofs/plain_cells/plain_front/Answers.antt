use Rattle.ansi_clusters.specs.declared.views.View.TheVariants.{Shown}
use Rattle.ansi_cells.proofs.PlainFrontLemmas.{plain-before}
use Rattle.ansi_cells.proofs.plain_cells.plain_front.Goals as goal

pub goes_past-requires : goal.goes_past-requires
goes_past-requires c = (let run = rw c.in-Some.is at c.in_ok-front.ensures in (Shown, run.is_walk))

pub returns-then-goes_past : goal.returns-then-goes_past
returns-then-goes_past c =
    let run = rw c.in-Some.is at c.in_ok-front.ensures in
    rw c.in-Some.is (plain-before run (c.goes_past.ensures c.if-goes_past.true))

pub returns-in_default : goal.returns-in_default
returns-in_default c = rw c.in_default.is (rw c.in_default.is at c.in_ok-front.ensures).is_cell
