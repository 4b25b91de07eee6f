use Rattle.ansi_slice.proofs.Common.{◌≡◌, ◌<◌, ◌-◌, sym, ◌∙◌, ap, arith, length, eqb-true, eqb-false, string_bytes, kind_is_text}
use Rattle.ansi_search.proofs.OffsetLemmas.{over_text, over_mark, kind_differs}
use Rattle.ansi_slice.proofs.TrimWalkLemmas.{IsUtf8-left, white_walk-begin, white_walk-text, white_walk-mark, white_walk-last, no_character_goes_on-white}
use Rattle.ansi_slice.proofs.slice.white_space.push_before_solid.Goals as goal

pub loop-item-init : goal.loop-item-init
loop-item-init g c =
    let begins : c.into_iter-item-iterator.result ≡ record { text = c.args.text.now; offset = 0 } = c.into_iter-item-iterator.ensures.into_iter_gives ∙ c.new-item-items.ensures.start in
    record {
      text = ap (λ s. s.text) begins;
      walk = rw begins (white_walk-begin c.args.text.now (string_bytes c.args.out.now));
    }

-- over a text of white space alone
pub loop-item-preserved-else-not-is_empty : goal.loop-item-preserved-else-not-is_empty
loop-item-preserved-else-not-is_empty g c =
    let gives = c.in-Some.ensures.steps in
    let over = over_text gives c.loop-item.invariant.text c.range-piece.ensures.value (kind_is_text c.if-eq.ensures) in
    let none = ap length (sym c.trim_start-rest.ensures.trim) ∙ eqb-true _ 0 (sym c.is_empty.ensures ∙ c.if-not-is_empty.false) in
    record {
      text = gives.text ∙ c.loop-item.invariant.text;
      walk = white_walk-text c.loop-item.invariant.walk over c.range-piece.utf8 (IsUtf8-left gives c.loop-item.invariant.text c.utf8.text) none;
    }

-- over a sequence, or a lone escape
pub loop-item-preserved : goal.loop-item-preserved
loop-item-preserved g c =
    let gives = c.in-Some.ensures.steps in
    let over = over_mark gives c.loop-item.invariant.text c.range-piece.ensures.value (kind_differs c.if-eq.ensures) in
    record {
      text = gives.text ∙ c.loop-item.invariant.text;
      walk = white_walk-mark c.loop-item.invariant.walk over c.in_ok-push_str.ensures.bytes;
    }

-- the first character that isn't white space is in this text

pub returns-then-not-is_empty-clause-bytes : goal.returns-then-not-is_empty-clause-bytes
returns-then-not-is_empty-clause-bytes g c =
    let gives = c.in-Some.ensures.steps in
    let over = over_text gives c.loop-item.invariant.text c.range-piece.ensures.value (kind_is_text c.if-eq.ensures) in
    let some : 0 < length c.trim_start-rest.result.now = omega (arith, eqb-false _ 0 (sym c.is_empty.ensures ∙ c.if-not-is_empty.true)) in
    (white_walk-last {i = c.in-Some.item.end - length c.trim_start-rest.result.now} c.loop-item.invariant.walk over c.range-piece.utf8 (IsUtf8-left gives c.loop-item.invariant.text c.utf8.text) c.trim_start-rest.ensures.trim some
    c.trim_start-rest.ensures.value.4 (omega (arith, gives.start, gives.end, over.count, c.trim_start-rest.ensures.value.4)) (no_character_goes_on-white c.args.text.now c.utf8.text)).0

pub returns-then-not-is_empty-clause-offset : goal.returns-then-not-is_empty-clause-offset
returns-then-not-is_empty-clause-offset g c =
    let gives = c.in-Some.ensures.steps in
    let over = over_text gives c.loop-item.invariant.text c.range-piece.ensures.value (kind_is_text c.if-eq.ensures) in
    let some : 0 < length c.trim_start-rest.result.now = omega (arith, eqb-false _ 0 (sym c.is_empty.ensures ∙ c.if-not-is_empty.true)) in
    (white_walk-last {i = c.in-Some.item.end - length c.trim_start-rest.result.now} c.loop-item.invariant.walk over c.range-piece.utf8 (IsUtf8-left gives c.loop-item.invariant.text c.utf8.text) c.trim_start-rest.ensures.trim some
    c.trim_start-rest.ensures.value.4 (omega (arith, gives.start, gives.end, over.count, c.trim_start-rest.ensures.value.4)) (no_character_goes_on-white c.args.text.now c.utf8.text)).1
