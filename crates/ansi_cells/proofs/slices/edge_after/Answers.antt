use Rattle.std.proofs.Common.{arith}
use Rattle.ansi_clusters.proofs.WalkLemmas.{walk_boundary}
use Rattle.ansi_cells.proofs.EdgeLemmas.{edge-begin, edge-clusters, edge-more, edge-divided, edge-no_column, edge-no_cluster}
use Rattle.ansi_cells.proofs.slices.edge_after.Goals as goal

pub clusters-init : goal.clusters-init
clusters-init c = record { walk = c.requires; so_far = edge-begin c.args.text.now c.args.from.position c.args.columns }

-- after characters that are clusters by themselves

pub past_singles-more-requires : goal.past_singles-more-requires
past_singles-more-requires c = c.clusters.invariant.walk

pub clusters-smaller-then-more-gt0 : goal.clusters-smaller-then-more-gt0
clusters-smaller-then-more-gt0 c =
    let past = c.past_singles-more.ensures.past in
    omega (arith, past.walk.within, past.ordered, past.bound, c.if-more-gt0.true)

pub clusters-preserved-then-more-gt0 : goal.clusters-preserved-then-more-gt0
clusters-preserved-then-more-gt0 c =
    let past = c.past_singles-more.ensures.past in
    record { walk = past.walk; so_far = edge-clusters past c.past_singles-more.ensures.most c.clusters.invariant.so_far }

-- after another cluster

pub read_cluster-requires : goal.read_cluster-requires
read_cluster-requires c = c.clusters.invariant.walk

pub clusters-preserved : goal.clusters-preserved
clusters-preserved c =
    let t = c.args.text.now in
    let inv = c.clusters.invariant in
    let got = c.in-Some.ensures in
    record {
      walk = got.0;
      so_far = edge-more inv.so_far c.utf8.text (walk_boundary t c.utf8.text c.clusters.walk inv.walk) (walk_boundary t c.utf8.text c.in-Some.next got.0) got.1 got.2 got.3 c.clusters-test.true c.if-left-width.false;
    }

-- the next cluster is divided
pub returns-then-left-width : goal.returns-then-left-width
returns-then-left-width c =
    let t = c.args.text.now in
    let inv = c.clusters.invariant in
    let got = c.in-Some.ensures in
    edge-divided inv.walk got.0 inv.so_far c.utf8.text (walk_boundary t c.utf8.text c.clusters.walk inv.walk) (walk_boundary t c.utf8.text c.in-Some.next got.0) got.1 got.2 got.3 c.clusters-test.true c.if-left-width.true

pub returns-after-clusters : goal.returns-after-clusters
returns-after-clusters c = edge-no_column c.clusters.invariant.walk c.clusters.invariant.so_far (omega (arith, c.clusters-test.false))

pub returns-in_default : goal.returns-in_default
returns-in_default c = edge-no_cluster c.clusters.invariant.walk c.clusters.invariant.so_far c.in_default.ensures
