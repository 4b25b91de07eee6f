use Rattle.ansi_slice.proofs.Common.{◌≡◌, ◌+◌, refl, ◌∙◌, ap, string_bytes, kind_is_text, plain_style, apply}
use Rattle.ansi_search.proofs.OffsetLemmas.{over_text, over_mark, kind_differs, offset_walk-begin, offset_walk-text, offset_walk-mark, offset_walk-last, offset_walk-boundary}
use Rattle.ansi_slice.proofs.StretchLemmas.{pushed-begin, pushed-text, pushed-mark, pushed-last}
use Rattle.ansi_style.proofs.FrontLemmas.{begins_more}
use Rattle.ansi_slice.proofs.slice.sequences.push_sequences.Goals as goal

pub loop-item-init : goal.loop-item-init
loop-item-init g c =
    let begins : c.into_iter-item-iterator.result ≡ record { text = c.args.text.now; offset = 0 } = c.into_iter-item-iterator.ensures.into_iter_gives ∙ c.new-item-items.ensures.start in
    record {
      text = ap (λ s. s.text) begins;
      way = rw begins (plain_style, offset_walk-begin c.args.text.now c.args.position plain_style);
      so_far = rw begins (pushed-begin (string_bytes c.args.out.now) c.args.text.now c.args.position);
      kept = λ front begins. begins;
    }

-- over a text
pub loop-item-preserved-then-eq : goal.loop-item-preserved-then-eq
loop-item-preserved-then-eq g c =
    let gives = c.in-Some.ensures.steps in
    let over = over_text gives c.loop-item.invariant.text c.range-piece.ensures.value (kind_is_text c.if-eq.ensures) in
    let way = c.loop-item.invariant.way in
    record {
      text = gives.text ∙ c.loop-item.invariant.text;
      way = (way.0, offset_walk-text way.1 over c.if-remaining-piece.false refl);
      so_far = pushed-text c.loop-item.invariant.so_far over.first c.if-remaining-piece.false refl;
      kept = c.loop-item.invariant.kept;
    }

-- over a sequence, or a lone escape
pub loop-item-preserved : goal.loop-item-preserved
loop-item-preserved g c =
    let gives = c.in-Some.ensures.steps in
    let over = over_mark gives c.loop-item.invariant.text c.range-piece.ensures.value (kind_differs c.if-eq.ensures) in
    let way = c.loop-item.invariant.way in
    record {
      text = gives.text ∙ c.loop-item.invariant.text;
      way = (apply way.0 c.range-piece.result.now, offset_walk-mark way.1 over refl);
      so_far = pushed-mark c.loop-item.invariant.so_far over.first c.in_ok-push_str.ensures.bytes;
      kept = λ front begins. begins_more _ _ _ front c.in_ok-push_str.ensures.bytes (c.loop-item.invariant.kept front begins);
    }

-- the position is in a text

pub returns-then-remaining-piece-clause-bytes : goal.returns-then-remaining-piece-clause-bytes
returns-then-remaining-piece-clause-bytes g c =
    let over = over_text c.in-Some.ensures.steps c.loop-item.invariant.text c.range-piece.ensures.value (kind_is_text c.if-eq.ensures) in
    pushed-last c.loop-item.invariant.so_far over.first c.if-remaining-piece.true

pub returns-then-remaining-piece-clause-offset : goal.returns-then-remaining-piece-clause-offset
returns-then-remaining-piece-clause-offset g c =
    let gives = c.in-Some.ensures.steps in
    let at = ap (λ n. n + c.loop-item.remaining) gives.start in
    let over = over_text gives c.loop-item.invariant.text c.range-piece.ensures.value (kind_is_text c.if-eq.ensures) in
    let way = c.loop-item.invariant.way.1 in
    record {
      good = c.requires;
      offset = at ∙ (offset_walk-last way over c.if-remaining-piece.true).0;
      boundary = offset_walk-boundary way over c.if-remaining-piece.true at c.requires;
    }
