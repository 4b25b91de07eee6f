use Rattle.ansi_search.proofs.Common.{arith, ◌∙◌, ap, ap₂, refl, subst, slice_range, kind_is_text, plain_of, IsCharBoundary}
use Rattle.ansi_search.proofs.OffsetLemmas.{over_text, over_mark, kind_differs}
use Rattle.ansi_search.proofs.LastRunLemmas.{run_walk-begin, run_walk-text, run_walk-mark, run_walk-some}
use Rattle.ansi_search.proofs.search.ends.last_item.Goals as goal

-- at the front
pub loop-item-init : goal.loop-item-init
loop-item-init c =
    let begins = c.into_iter-item-iterator.ensures.into_iter_gives ∙ c.new-item-items.ensures.start in
    record { text = ap (λ s. s.text) begins; walk = rw begins (run_walk-begin c.args.text.now) }

-- over a text
pub loop-item-preserved-then-eq : goal.loop-item-preserved-then-eq
loop-item-preserved-then-eq c =
    let gives = c.in-Some.ensures.steps in
    let over = over_text gives c.loop-item.invariant.text refl (kind_is_text c.if-eq.ensures) in
    record {
      text = gives.text ∙ c.loop-item.invariant.text;
      walk = rw (gives.start, gives.end) (run_walk-text c.loop-item.invariant.walk over (omega (arith, gives.start, gives.end, gives.forward)) (ap₂ (slice_range c.args.text.now) gives.start gives.end) (subst (IsCharBoundary c.args.text.now) gives.end (subst (λ u. IsCharBoundary u c.in-Some.item.end) c.loop-item.invariant.text gives.end_boundary)));
    }

-- over a mark
pub loop-item-preserved : goal.loop-item-preserved
loop-item-preserved c =
    let gives = c.in-Some.ensures.steps in
    record {
      text = gives.text ∙ c.loop-item.invariant.text;
      walk = run_walk-mark c.loop-item.invariant.walk (over_mark gives c.loop-item.invariant.text refl (kind_differs c.if-eq.ensures));
    }

pub returns-clause-run : goal.returns-clause-run
returns-clause-run c some = c.loop-item.invariant.walk.run (ap plain_of c.in-None.ensures.steps.2) some

pub returns-clause-some : goal.returns-clause-some
returns-clause-some c = run_walk-some c.loop-item.invariant.walk (ap plain_of c.in-None.ensures.steps.2)
