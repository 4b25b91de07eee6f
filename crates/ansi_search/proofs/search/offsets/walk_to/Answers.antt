use Rattle.ansi_search.proofs.Common.{◌+◌, refl, sym, ◌∙◌, ap, kind_is_text, apply-no_sgr, IsUtf8-plain}
use Rattle.ansi_search.proofs.PositionLemmas.{is_good_position-utf8}
use Rattle.ansi_search.proofs.OffsetLemmas.{over_text, over_mark, kind_differs, offset_walk-text, offset_walk-mark, offset_walk-last, offset_walk-test}
use Rattle.ansi_search.proofs.search.offsets.walk_to.Goals as goal

-- over a text
pub loop-item-preserved-then-eq : goal.loop-item-preserved-then-eq
loop-item-preserved-then-eq c =
    let gives = c.in-Some.ensures.steps in
    let over = over_text gives c.loop-item.invariant.text c.range-piece.ensures.value (kind_is_text c.if-eq.ensures) in
    record {
      text = gives.text ∙ c.loop-item.invariant.text;
      way = offset_walk-text c.loop-item.invariant.way over c.if-remaining-piece.false refl;
    }

-- over an SGR
pub loop-item-preserved-then-eq-2 : goal.loop-item-preserved-then-eq-2
loop-item-preserved-then-eq-2 c =
    let gives = c.in-Some.ensures.steps in
    let over = over_mark gives c.loop-item.invariant.text c.range-piece.ensures.value (kind_differs c.if-eq.ensures) in
    record {
      text = gives.text ∙ c.loop-item.invariant.text;
      way = offset_walk-mark c.loop-item.invariant.way over c.apply.ensures;
    }

-- over another sequence, or a lone escape
pub loop-item-preserved : goal.loop-item-preserved
loop-item-preserved c =
    let w = c.range-piece.result.now in
    let gives = c.in-Some.ensures.steps in
    let over = over_mark gives c.loop-item.invariant.text c.range-piece.ensures.value (kind_differs c.if-eq.ensures) in
    record {
      text = gives.text ∙ c.loop-item.invariant.text;
      way = offset_walk-mark c.loop-item.invariant.way over (sym (apply-no_sgr _ w (over.first.no_sgr (kind_differs c.if-eq-2.ensures))));
    }

-- the position is in a text, at a boundary or not

pub returns-then-not-is_char_boundary-clause-offset : goal.returns-then-not-is_char_boundary-clause-offset
returns-then-not-is_char_boundary-clause-offset c =
    let gives = c.in-Some.ensures.steps in
    let over = over_text gives c.loop-item.invariant.text c.range-piece.ensures.value (kind_is_text c.if-eq.ensures) in
    is_good_position-utf8 _ c.args.position (IsUtf8-plain c.args.text.now c.utf8.text)
    ∙ sym (offset_walk-test c.loop-item.invariant.way over c.if-remaining-piece.true (ap (λ n. n + c.loop-item.remaining) gives.start) c.is_char_boundary.ensures.test)
    ∙ c.if-not-is_char_boundary.true

pub returns-then-remaining-piece-clause-offset : goal.returns-then-remaining-piece-clause-offset
returns-then-remaining-piece-clause-offset c =
    let gives = c.in-Some.ensures.steps in
    let at = ap (λ n. n + c.loop-item.remaining) gives.start in
    let over = over_text gives c.loop-item.invariant.text c.range-piece.ensures.value (kind_is_text c.if-eq.ensures) in
    record {
      good = sym (offset_walk-test c.loop-item.invariant.way over c.if-remaining-piece.true at c.is_char_boundary.ensures.test)
          ∙ c.if-not-is_char_boundary.false;
      offset = at ∙ (offset_walk-last c.loop-item.invariant.way over c.if-remaining-piece.true).0;
      boundary = c.is_char_boundary.ensures.test.0 c.if-not-is_char_boundary.false;
    }

pub returns-then-remaining-piece-clause-style : goal.returns-then-remaining-piece-clause-style
returns-then-remaining-piece-clause-style c =
    let over = over_text c.in-Some.ensures.steps c.loop-item.invariant.text c.range-piece.ensures.value (kind_is_text c.if-eq.ensures) in
    (offset_walk-last c.loop-item.invariant.way over c.if-remaining-piece.true).1
