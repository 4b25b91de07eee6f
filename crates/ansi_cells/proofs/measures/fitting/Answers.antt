use Rattle.ansi_items.specs.Plain.{plain}
use Rattle.ansi_items.proofs.Utf8Lemmas.{IsUtf8-plain}
use Rattle.ansi_search.proofs.PositionLemmas.{good_before, boundary_is_good}
use Rattle.ansi_clusters.proofs.WalkLemmas.{walk_boundary}
use Rattle.ansi_cells.proofs.measures.fitting.Goals as goal

pub returns-clause-fits : goal.returns-clause-fits
returns-clause-fits c = (let sees = c.fitting_end.ensures.fits in record { fits = sees.fits; greatest = sees.greatest })

pub returns-clause-boundary : goal.returns-clause-boundary
returns-clause-boundary c = walk_boundary c.args.text.now c.utf8.text c.fitting_end.result c.fitting_end.ensures.walk

pub returns-clause-good_before : goal.returns-clause-good_before
returns-clause-good_before c =
    let t = c.args.text.now in
    good_before (plain t) c.fitting_end.result.position (IsUtf8-plain t c.utf8.text) (walk_boundary t c.utf8.text c.fitting_end.result c.fitting_end.ensures.walk)

pub returns-clause-good_after : goal.returns-clause-good_after
returns-clause-good_after c =
    let t = c.args.text.now in
    boundary_is_good (plain t) c.fitting_end.result.position (walk_boundary t c.utf8.text c.fitting_end.result c.fitting_end.ensures.walk)
