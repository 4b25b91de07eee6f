use Rattle.ansi_slice.proofs.Common.{◌≡◌, ◌∙◌, ap, ap₂, refl, slice_range, kind_is_text}
use Rattle.ansi_search.proofs.OffsetLemmas.{over_text, over_mark, kind_differs}
use Rattle.ansi_slice.proofs.StretchLemmas.{front_walk-begin, front_walk-mark, front_walk-text}
use Rattle.ansi_slice.proofs.slice.sequences.first_run.Goals as goal

pub loop-item-init : goal.loop-item-init
loop-item-init c =
    let begins : c.into_iter-item-iterator.result ≡ record { text = c.args.text.now; offset = 0 } = c.into_iter-item-iterator.ensures.into_iter_gives ∙ c.new-item-items.ensures.start in
    record {
      text = ap (λ s. s.text) begins;
      walk = rw begins (front_walk-begin c.args.text.now);
    }

-- a text comes next
pub returns-then-eq : goal.returns-then-eq
returns-then-eq c =
    let gives = c.in-Some.ensures.steps in
    let over = over_text gives c.loop-item.invariant.text refl (kind_is_text c.if-eq.ensures) in
    rw (gives.start, gives.end) (front_walk-text c.loop-item.invariant.walk over (ap₂ (slice_range c.args.text.now) gives.start gives.end))

-- over a sequence, or a lone escape
pub loop-item-preserved : goal.loop-item-preserved
loop-item-preserved c =
    let gives = c.in-Some.ensures.steps in
    record {
      text = gives.text ∙ c.loop-item.invariant.text;
      walk = front_walk-mark c.loop-item.invariant.walk (over_mark gives c.loop-item.invariant.text refl (kind_differs c.if-eq.ensures));
    }
