use Rattle.ansi_clusters.proofs.ColumnLemmas.{sees-past}
use Rattle.ansi_clusters.proofs.fits.fitting_end.Goals as goal

pub longest_from-requires : goal.longest_from-requires
longest_from-requires c = c.start.ensures.fitted c.args.view

pub returns-clause-fits : goal.returns-clause-fits
returns-clause-fits c =
    let longest = c.longest_from.ensures in
    let end = c.next_seen.ensures in
    sees-past c.args.view c.args.text.now c.utf8.text c.longest_from.result.0.walk c.next_seen.result.0 longest.fitted.walk end.walk end.ordered end.left_out c.next_seen.result.1 longest.fits end.next
