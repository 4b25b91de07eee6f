use Rattle.ansi_search.proofs.Common.{arith, IsScan, IsScan-accept, IsScan-skip, IsScan-push, IsScan-block, IsScan-end, Precedes}
use Rattle.ansi_search.proofs.TwoWayLemmas.{Precedes-trans, Precedes-irrefl}
use Rattle.ansi_search.proofs.search.critical.greatest_suffix.Goals as goal

-- the candidate goes on as the suffix, for a whole period or not yet

pub loop-candidate-preserved-then-offset-period : goal.loop-candidate-preserved-then-offset-period
loop-candidate-preserved-then-offset-period c =
    IsScan-block (Precedes c.args.is_rising) (Precedes-trans c.args.is_rising) (Precedes-irrefl c.args.is_rising) _ _ c.loop-candidate.invariant c.loop-candidate-test.true c.if-current-other.true c.if-offset-period.true

pub loop-candidate-preserved-else-offset-period : goal.loop-candidate-preserved-else-offset-period
loop-candidate-preserved-else-offset-period c = grind (arith, IsScan-push, Precedes-irrefl, Precedes-trans)

-- it is greater
pub loop-candidate-preserved-then-precedes : goal.loop-candidate-preserved-then-precedes
loop-candidate-preserved-then-precedes c =
    IsScan-accept (Precedes c.args.is_rising) (Precedes-trans c.args.is_rising) (Precedes-irrefl c.args.is_rising) _ _ c.loop-candidate.invariant c.loop-candidate-test.true (c.precedes.ensures.yes c.if-precedes.true)

-- it is less
pub loop-candidate-preserved : goal.loop-candidate-preserved
loop-candidate-preserved c = grind (arith, IsScan, IsScan-skip, Precedes-irrefl, Precedes-trans)

pub returns : goal.returns
returns c =
    IsScan-end (Precedes c.args.is_rising) (Precedes-trans c.args.is_rising) (Precedes-irrefl c.args.is_rising) _ _ c.loop-candidate.invariant
    (omega (arith, c.loop-candidate.invariant.within, c.loop-candidate-test.false))
