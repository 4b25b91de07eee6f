use Rattle.ansi_search.proofs.Common.{refl, sym, ◌∙◌, ap, arith, eqb-true, eqb-false, kind_is_text}
use Rattle.ansi_search.proofs.OffsetLemmas.{over_text, over_mark, kind_differs}
use Rattle.ansi_search.proofs.WhiteSpaceLemmas.{solid-begin, solid-white, solid-other, solid-mark, solid-end}
use Rattle.ansi_search.proofs.search.ends.solid_end.Goals as goal

-- at the front
pub loop-item-init : goal.loop-item-init
loop-item-init c =
    let begins = c.into_iter-item-iterator.ensures.into_iter_gives ∙ c.new-item-items.ensures.start in
    record { text = ap (λ s. s.text) begins; so_far = rw begins (solid-begin c.args.text.now c.utf8.text) }

-- over a text that is not white space alone
pub loop-item-preserved-then-not-is_empty : goal.loop-item-preserved-then-not-is_empty
loop-item-preserved-then-not-is_empty c =
    let gives = c.in-Some.ensures.steps in
    let over = over_text gives c.loop-item.invariant.text c.range-run.ensures.value (kind_is_text c.if-eq.ensures) in
    record {
      text = gives.text ∙ c.loop-item.invariant.text;
      so_far = rw gives.start
          (solid-other c.loop-item.invariant.so_far over c.utf8.text c.trim_end-front.ensures.trim c.range-run.utf8 c.trim_end-front.utf8
          (omega (arith, eqb-false _ 0 (sym c.is_empty.ensures ∙ c.if-not-is_empty.true))));
    }

-- over any other
pub loop-item-preserved-else-not-is_empty : goal.loop-item-preserved-else-not-is_empty
loop-item-preserved-else-not-is_empty c =
    let gives = c.in-Some.ensures.steps in
    let over = over_text gives c.loop-item.invariant.text c.range-run.ensures.value (kind_is_text c.if-eq.ensures) in
    record {
      text = gives.text ∙ c.loop-item.invariant.text;
      so_far = solid-white c.loop-item.invariant.so_far over c.trim_end-front.ensures.trim c.range-run.utf8 (eqb-true _ 0 (sym c.is_empty.ensures ∙ c.if-not-is_empty.false));
    }

-- over a mark
pub loop-item-preserved : goal.loop-item-preserved
loop-item-preserved c =
    let gives = c.in-Some.ensures.steps in
    record {
      text = gives.text ∙ c.loop-item.invariant.text;
      so_far = solid-mark c.loop-item.invariant.so_far (over_mark gives c.loop-item.invariant.text refl (kind_differs c.if-eq.ensures));
    }

pub returns : goal.returns
returns c = (let solid = solid-end c.loop-item.invariant.so_far c.in-None.ensures.steps.2 in record { end = solid.end; white = solid.white; some = solid.some })
