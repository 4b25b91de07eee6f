use Rattle.std.proofs.Common.{refl, subst, arith}
use Rattle.ansi_clusters.specs.Walks.{IsNextRun}
use Rattle.ansi_cells.proofs.EdgeLemmas.{no_columns-more, has_columns, has_columns-past, has_no_columns}
use Rattle.ansi_clusters.specs.declared.views.View.TheVariants.{Given}
use Rattle.ansi_clusters.proofs.PrintableLemmas.{clusters-past}
use Rattle.ansi_cells.proofs.slices.has_column.Goals as goal

pub past_ascii-len-requires : goal.past_ascii-len-requires
past_ascii-len-requires c = (Given, c.requires)

pub returns-then-len-gt0 : goal.returns-then-len-gt0
returns-then-len-gt0 c = has_columns-past (clusters-past c.requires c.past_ascii-len.ensures.past) c.if-len-gt0.true

pub clusters-init : goal.clusters-init
clusters-init c =
    let same = c.past_ascii-len.ensures.none (omega (arith, c.if-len-gt0.false)) in
    record { walk = c.requires; next = subst (λ w. IsNextRun Given c.args.text.now w c.past_ascii-len.result.2) same (c.past_ascii-len.ensures.next Given c.requires); same = refl }

pub clusters-preserved : goal.clusters-preserved
clusters-preserved c =
    let got = c.in-Some.ensures in
    record {
      walk = got.0;
      next = λ some. absurd (omega (arith, some));
      same = no_columns-more c.args.text.now c.args.from.position c.clusters.walk.position c.in-Some.next.position c.clusters.invariant.same got.2 got.3 (omega (arith, c.if-width-gt0.false));
    }

pub returns-then-width-gt0 : goal.returns-then-width-gt0
returns-then-width-gt0 c =
    let got = c.in-Some.ensures in
    has_columns c.args.text.now c.args.from.position c.clusters.walk.position c.in-Some.next.position c.clusters.invariant.same got.2 got.3 c.if-width-gt0.true

pub returns : goal.returns
returns c = has_no_columns c.args.text.now c.args.from.position c.clusters.walk.position c.clusters.invariant.same (rw c.in_default.is at c.next_cluster_before.ensures)
