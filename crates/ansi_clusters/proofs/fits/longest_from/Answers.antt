use Rattle.std.proofs.Common.{arith}
use Rattle.ansi_clusters.proofs.WalkLemmas.{walk_boundary}
use Rattle.ansi_clusters.proofs.ColumnLemmas.{fitting-more, fitting-all, fitting-stop}
use Rattle.ansi_clusters.proofs.FitLemmas.{IsFittingTo-end, not_all_fit}
use Rattle.ansi_clusters.proofs.PrintableLemmas.{fitting-clusters}
use Rattle.ansi_clusters.proofs.fits.longest_from.Goals as goal

-- after characters that are clusters by themselves

pub past_singles-more-requires : goal.past_singles-more-requires
past_singles-more-requires c = c.clusters.invariant.walk

pub clusters-smaller-then-more-gt0 : goal.clusters-smaller-then-more-gt0
clusters-smaller-then-more-gt0 c =
    let past = c.past_singles-more.ensures.past in
    omega (arith, past.walk.within, past.ordered, past.bound, c.if-more-gt0.true)

pub clusters-preserved-then-more-gt0 : goal.clusters-preserved-then-more-gt0
clusters-preserved-then-more-gt0 c =
    let past = c.past_singles-more.ensures.past in
    record { walk = past.walk; fitting = fitting-clusters past c.past_singles-more.ensures.most c.clusters.invariant.fitting }

-- after another cluster

pub clusters-preserved : goal.clusters-preserved
clusters-preserved c =
    let t = c.args.text.now in
    let inv = c.clusters.invariant in
    let got = c.in-Some.ensures in
    record {
      walk = got.0;
      fitting = fitting-more inv.fitting c.utf8.text (walk_boundary t c.utf8.text c.clusters.fitted.walk inv.walk) (walk_boundary t c.utf8.text c.in-Some.next got.0) got.1 got.2 got.3 c.if-fitted-columns.false;
    }

-- the next cluster doesn't fit

pub returns-then-fitted-columns-clause-fits : goal.returns-then-fitted-columns-clause-fits
returns-then-fitted-columns-clause-fits c =
    let got = c.in-Some.ensures in
    fitting-stop c.in-Some.next.position c.clusters.invariant.fitting got.2 got.3 c.if-fitted-columns.true

pub returns-then-fitted-columns-clause-all : goal.returns-then-fitted-columns-clause-all
returns-then-fitted-columns-clause-all c =
    let got = c.in-Some.ensures in
    not_all_fit c.in-Some.next.position c.clusters.invariant.fitting got.2 got.3 c.if-fitted-columns.true

-- there is none

pub returns-in_default-clause-fits : goal.returns-in_default-clause-fits
returns-in_default-clause-fits c = fitting-all c.clusters.invariant.fitting (rw c.in_default.is at c.read_cluster.ensures)

pub returns-in_default-clause-all : goal.returns-in_default-clause-all
returns-in_default-clause-all c = IsFittingTo-end c.clusters.invariant.fitting (rw c.in_default.is at c.read_cluster.ensures)
