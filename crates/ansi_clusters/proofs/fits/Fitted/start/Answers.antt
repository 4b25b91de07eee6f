use Rattle.std.proofs.Common.{sym, subst}
use Rattle.ansi_clusters.specs.Walks.{IsFittingTo}
use Rattle.ansi_clusters.proofs.ColumnLemmas.{fitting-begin}
use Rattle.ansi_clusters.proofs.fits.Fitted.start.Goals as goal

pub returns-clause-fitted : goal.returns-clause-fitted
returns-clause-fitted c view =
    let t = c.args.text.now in
    let width = c.args.width in
    record { walk = c.start.ensures.seen view; fitting = subst (λ n. IsFittingTo view t width n width) (sym c.start.ensures.position) (fitting-begin view t width c.utf8.text) }
