use Rattle.ansi_search.proofs.Common.{◌∙◌, ℕ, ap, arith, refl, length, plain_of, length-append, kind_is_text}
use Rattle.ansi_search.proofs.OffsetLemmas.{over_text}
use Rattle.ansi_search.proofs.search.ends.plain_len.Goals as goal

-- over a run
pub loop-item-preserved-then-eq : goal.loop-item-preserved-then-eq
loop-item-preserved-then-eq c =
    let gives = c.in-Some.ensures.steps in
    let over = over_text gives c.loop-item.invariant.text refl (kind_is_text c.if-eq.ensures) in
    record {
      text = gives.text ∙ c.loop-item.invariant.text;
      fits = omega (arith, c.loop-item.invariant.fits, gives.start, gives.end, gives.forward);
      count = omega (arith, c.loop-item.invariant.count, gives.start, gives.end, gives.forward, over.count, ap (λ ps. length (plain_of ps)) over.first, length-append {A = ℕ});
    }
