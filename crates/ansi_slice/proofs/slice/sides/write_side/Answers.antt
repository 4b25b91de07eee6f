use Rattle.ansi_slice.proofs.Common.{◌+◌, refl, ◌∙◌, ap, kind_is_text}
use Rattle.ansi_search.proofs.OffsetLemmas.{over_text, over_mark, kind_differs, offset_walk-text, offset_walk-mark, offset_walk-last, offset_walk-boundary}
use Rattle.ansi_slice.proofs.SideWalkLemmas.{side-text, side-mark}
use Rattle.ansi_slice.proofs.slice.sides.write_side.Goals as goal

-- over a text
pub loop-item-preserved-then-eq : goal.loop-item-preserved-then-eq
loop-item-preserved-then-eq g c =
    let gives = c.in-Some.ensures.steps in
    let over = over_text gives c.loop-item.invariant.text c.range-piece.ensures.value (kind_is_text c.if-eq.ensures) in
    record {
      text = gives.text ∙ c.loop-item.invariant.text;
      way = offset_walk-text c.loop-item.invariant.way over c.if-remaining-piece.false refl;
      so_far = side-text c.loop-item.invariant.so_far over.first c.if-remaining-piece.false c.in_ok-write_dressed-2.ensures refl;
    }

-- over a mark
pub loop-item-preserved : goal.loop-item-preserved
loop-item-preserved g c =
    let gives = c.in-Some.ensures.steps in
    let over = over_mark gives c.loop-item.invariant.text c.range-piece.ensures.value (kind_differs c.if-eq.ensures) in
    record {
      text = gives.text ∙ c.loop-item.invariant.text;
      way = offset_walk-mark c.loop-item.invariant.way over c.write_mark.ensures.style;
      so_far = side-mark c.loop-item.invariant.so_far over.first c.in_ok-write_mark.ensures.bytes c.write_mark.ensures.style;
    }

-- the position is in a text

pub returns-then-remaining-piece-clause-style : goal.returns-then-remaining-piece-clause-style
returns-then-remaining-piece-clause-style g c =
    let over = over_text c.in-Some.ensures.steps c.loop-item.invariant.text c.range-piece.ensures.value (kind_is_text c.if-eq.ensures) in
    (offset_walk-last c.loop-item.invariant.way over c.if-remaining-piece.true).1

pub returns-then-remaining-piece-clause-offset : goal.returns-then-remaining-piece-clause-offset
returns-then-remaining-piece-clause-offset g c =
    let gives = c.in-Some.ensures.steps in
    let at = ap (λ n. n + c.loop-item.remaining) gives.start in
    let over = over_text gives c.loop-item.invariant.text c.range-piece.ensures.value (kind_is_text c.if-eq.ensures) in
    record {
      good = c.requires;
      offset = at ∙ (offset_walk-last c.loop-item.invariant.way over c.if-remaining-piece.true).0;
      boundary = offset_walk-boundary c.loop-item.invariant.way over c.if-remaining-piece.true at c.requires;
    }
