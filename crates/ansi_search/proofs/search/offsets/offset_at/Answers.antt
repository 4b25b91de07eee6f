use Rattle.ansi_search.proofs.Common.{◌+◌, refl, sym, ◌∙◌, ap, kind_is_text, IsUtf8-plain}
use Rattle.ansi_search.proofs.PositionLemmas.{is_good_position-utf8}
use Rattle.ansi_search.proofs.OffsetLemmas.{over_text, over_mark, kind_differs, offset_walk-last, offset_walk-test, walk-begin, walk-text, walk-mark}
use Rattle.ansi_search.proofs.search.offsets.offset_at.Goals as goal

pub loop-item-init : goal.loop-item-init
loop-item-init c =
    let begins = c.into_iter-item-iterator.ensures.into_iter_gives ∙ c.new-item-items.ensures.start in
    record { text = ap (λ s. s.text) begins; walk = rw begins (walk-begin c.args.text.now c.args.position) }

-- over a text
pub loop-item-preserved-then-eq : goal.loop-item-preserved-then-eq
loop-item-preserved-then-eq c =
    let gives = c.in-Some.ensures.steps in
    let over = over_text gives c.loop-item.invariant.text c.range-piece.ensures.value (kind_is_text c.if-eq.ensures) in
    record {
      text = gives.text ∙ c.loop-item.invariant.text;
      walk = walk-text c.loop-item.invariant.walk over c.if-remaining-piece.false refl;
    }

-- over a sequence, or a lone escape
pub loop-item-preserved : goal.loop-item-preserved
loop-item-preserved c =
    let gives = c.in-Some.ensures.steps in
    let over = over_mark gives c.loop-item.invariant.text c.range-piece.ensures.value (kind_differs c.if-eq.ensures) in
    record {
      text = gives.text ∙ c.loop-item.invariant.text;
      walk = walk-mark c.loop-item.invariant.walk over;
    }

-- the position is in a text, at a boundary or not

pub returns-then-not-is_char_boundary : goal.returns-then-not-is_char_boundary
returns-then-not-is_char_boundary c =
    let gives = c.in-Some.ensures.steps in
    let over = over_text gives c.loop-item.invariant.text c.range-piece.ensures.value (kind_is_text c.if-eq.ensures) in
    is_good_position-utf8 _ c.args.position (IsUtf8-plain c.args.text.now c.utf8.text)
    ∙ sym (offset_walk-test c.loop-item.invariant.walk.way over c.if-remaining-piece.true (ap (λ n. n + c.loop-item.remaining) gives.start) c.is_char_boundary.ensures.test)
    ∙ c.if-not-is_char_boundary.true

pub returns-then-remaining-piece : goal.returns-then-remaining-piece
returns-then-remaining-piece c =
    let gives = c.in-Some.ensures.steps in
    let at = ap (λ n. n + c.loop-item.remaining) gives.start in
    let over = over_text gives c.loop-item.invariant.text c.range-piece.ensures.value (kind_is_text c.if-eq.ensures) in
    record {
      good = sym (offset_walk-test c.loop-item.invariant.walk.way over c.if-remaining-piece.true at c.is_char_boundary.ensures.test)
          ∙ c.if-not-is_char_boundary.false;
      offset = at ∙ (offset_walk-last c.loop-item.invariant.walk.way over c.if-remaining-piece.true).0;
      boundary = c.is_char_boundary.ensures.test.0 c.if-not-is_char_boundary.false;
    }
