use Rattle.ansi_split.proofs.Common.{◌≤◌, IsFalse, take, length, sym, ◌∙◌, ap, arith, has_escape, length-take-le}
use Rattle.ansi_split.proofs.RestLemmas.{no_escape-parts}
use Rattle.ansi_split.proofs.SpanWalkLemmas.{skip-inside, shown-front, boundary-front}
use Rattle.ansi_split.proofs.split.spans.past_plain.Goals as goal
use Rattle.ansi_split.proofs.split.spans.past_plain.Goals.{else-is_marked-via-then-is_marked+else-has_escape, else-is_marked-via-else-is_marked}

-- the plain bytes that are left out are in the text
pub slice_bounds-has_escape-end : goal.slice_bounds-has_escape-end
slice_bounds-has_escape-end c =
    let inside : c.args.skip ≤ length c.as_bytes.result.now = omega (arith, skip-inside c.args.text.now c.args.skip c.requires.boundary, ap length c.as_bytes.ensures.value) in
    omega (arith, length-take-le c.args.skip c.as_bytes.result.now inside)

-- if no sequence is among them, what follows is unchanged

pub range_from-requires : goal.range_from-requires
range_from-requires c some =
    let t = c.args.text.now in
    let n = c.args.skip in
    let none : IsFalse (has_escape (take n t)) = elim c.else-is_marked.branch [
      | else-is_marked-via-else-is_marked w ↦ (no_escape-parts n t (sym c.requires.marked ∙ w.if-is_marked.false)).0
      | else-is_marked-via-then-is_marked+else-has_escape w ↦
          ap (λ u. has_escape (take n u)) (sym w.as_bytes.ensures.value) ∙ w.has_escape.ensures w.if-has_escape.false
    ] in
    boundary-front t n (skip-inside t n c.requires.boundary) none c.requires.boundary

pub returns : goal.returns
returns c =
    let t = c.args.text.now in
    let n = c.args.skip in
    let none : IsFalse (has_escape (take n t)) = elim c.else-is_marked.branch [
      | else-is_marked-via-else-is_marked w ↦ (no_escape-parts n t (sym c.requires.marked ∙ w.if-is_marked.false)).0
      | else-is_marked-via-then-is_marked+else-has_escape w ↦
          ap (λ u. has_escape (take n u)) (sym w.as_bytes.ensures.value) ∙ w.has_escape.ensures w.if-has_escape.false
    ] in
    c.range_from.ensures.value ∙ sym (shown-front t n (skip-inside t n c.requires.boundary) none)
