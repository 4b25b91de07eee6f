use Rattle.std.proofs.Common.{◌^◌, ◌<◌, length, refl, arith, rules}
use Rattle.ansi_items.proofs.PlainLemmas.{length-plain}
use Rattle.ansi_clusters.proofs.ColumnLemmas.{counted-next, counted-end}
use Rattle.ansi_clusters.proofs.PrintableLemmas.{counted-clusters}
use Rattle.ansi_cells.proofs.widths.walked_width.Goals as goal

-- after characters that are clusters by themselves

pub past_singles-more-requires : goal.past_singles-more-requires
past_singles-more-requires c = c.clusters.invariant.walk

pub overflow_add-total : goal.overflow_add-total
overflow_add-total c =
    let t = c.args.text.now in
    let inv = c.clusters.invariant in
    let size : length t < 2 ^ 63 = search rules in
    let past = c.past_singles-more.ensures.past in
    omega (arith, size, length-plain t, (counted-clusters past inv.counted).bound, past.walk.within)

pub clusters-smaller-then-more-gt0 : goal.clusters-smaller-then-more-gt0
clusters-smaller-then-more-gt0 c =
    let past = c.past_singles-more.ensures.past in
    omega (arith, past.walk.within, past.ordered, past.bound, c.if-more-gt0.true)

pub clusters-preserved-then-more-gt0 : goal.clusters-preserved-then-more-gt0
clusters-preserved-then-more-gt0 c =
    let inv = c.clusters.invariant in
    let past = c.past_singles-more.ensures.past in
    record { walk = past.walk; counted = counted-clusters past inv.counted }

-- after another cluster

pub returns-in_default : goal.returns-in_default
returns-in_default c = counted-end c.clusters.invariant.counted (rw c.in_default.is at c.read_cluster.ensures)

pub overflow_add-total-in-clusters : goal.overflow_add-total-in-clusters
overflow_add-total-in-clusters c =
    let t = c.args.text.now in
    let size : length t < 2 ^ 63 = search rules in
    let got = c.in-Some.ensures in
    omega (arith, size, length-plain t, c.clusters.invariant.counted.bound, got.0.within, got.1, got.4)

pub clusters-preserved : goal.clusters-preserved
clusters-preserved c =
    let got = c.in-Some.ensures in
    record { walk = got.0; counted = counted-next c.clusters.invariant.counted refl got.1 got.2 got.3 got.4 }
