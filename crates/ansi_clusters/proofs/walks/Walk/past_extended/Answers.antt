use Rattle.std.proofs.Common.{arith}
use Rattle.ansi_clusters.proofs.SingleWalkLemmas.{letters-none, letters-push}
use Rattle.ansi_clusters.proofs.walks.Walk.past_extended.Goals as goal

pub clusters-init : goal.clusters-init
clusters-init c = record { walk = λ view walk. walk; past = λ view walk. letters-none view c.args.text.now c.args.self; most = omega arith }

pub next_extended-requires : goal.next_extended-requires
next_extended-requires c = (c.requires.0, c.clusters.invariant.walk c.requires.0 c.requires.1)

pub clusters-preserved : goal.clusters-preserved
clusters-preserved c =
    let inv = c.clusters.invariant in
    record {
      walk = λ view walk. (c.in-Some.ensures view (inv.walk view walk)).past.0;
      past = λ view walk. letters-push (inv.past view walk) (c.in-Some.ensures view (inv.walk view walk));
      most = omega (arith, c.if-most-columns.false, inv.most);
    }

pub clusters-smaller : goal.clusters-smaller
clusters-smaller c =
    let past = (c.in-Some.ensures c.requires.0 (c.clusters.invariant.walk c.requires.0 c.requires.1)).past in
    omega (arith, past.0.within, past.1)
