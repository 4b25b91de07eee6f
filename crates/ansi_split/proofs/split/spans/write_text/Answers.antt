use Rattle.ansi_split.proofs.Common.{rules, refl, ◌∙◌, subst, arith, IsCharBoundary, kind_is_text, gives_text, gives_mark, over_text}
use Rattle.ansi_split.proofs.SpanWalkLemmas.{shown-mark, shown-skip, shown-rest, shown-boundary}
use Rattle.ansi_style.proofs.FrontLemmas.{begins_more}
use Rattle.ansi_split.proofs.split.spans.write_text.Goals as goal

-- the plain bytes that are left out end at a character
pub range_from-requires : goal.range_from-requires
range_from-requires g c =
    let t = c.args.text.now in
    let gives = c.in-Some-item.ensures.steps in
    let over = over_text gives c.loop-item.invariant.text c.range-piece.ensures.value (kind_is_text c.if-eq.ensures) in
    let boundary : IsCharBoundary t c.next.new.self.offset = subst (λ v. IsCharBoundary v c.next.new.self.offset) c.loop-item.invariant.text (subst (IsCharBoundary c.loop-item.item-iterator.text) gives.end gives.end_boundary) in
    λ some. shown-boundary c.loop-item.skip c.loop-item.invariant.so_far.good over (omega arith) gives.start boundary

-- in a text, what follows is unchanged
pub returns-then-skip-piece-clause-bytes : goal.returns-then-skip-piece-clause-bytes
returns-then-skip-piece-clause-bytes g c =
    let gives = c.in-Some-item.ensures.steps in
    let over = over_text gives c.loop-item.invariant.text c.range-piece.ensures.value (kind_is_text c.if-eq.ensures) in
    shown-rest c.loop-item.invariant.so_far over (omega arith) gives.start c.range_from.ensures.value c.in_ok-push_str.ensures.bytes

-- over a text that is left out
pub loop-item-preserved-then-eq : goal.loop-item-preserved-then-eq
loop-item-preserved-then-eq g c =
    let gives = c.in-Some-item.ensures.steps in
    let same = c.loop-item.invariant.text in
    record {
      text = gives.text ∙ same;
      so_far = shown-skip c.loop-item.invariant.so_far (gives_text gives same c.range-piece.ensures.value (kind_is_text c.if-eq.ensures)) (omega arith) refl;
      kept = c.loop-item.invariant.kept;
    }

-- over a sequence, or a lone escape
pub loop-item-preserved : goal.loop-item-preserved
loop-item-preserved g c =
    let gives = c.in-Some-item.ensures.steps in
    let same = c.loop-item.invariant.text in
    record {
      text = gives.text ∙ same;
      so_far = shown-mark c.loop-item.invariant.so_far (gives_mark gives same c.range-piece.ensures.value (search rules)) c.in_ok-push_str-2.ensures.bytes;
      kept = λ front begins. begins_more _ _ _ front c.in_ok-push_str-2.ensures.bytes (c.loop-item.invariant.kept front begins);
    }
