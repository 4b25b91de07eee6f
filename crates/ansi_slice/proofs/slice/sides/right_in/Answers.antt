use Rattle.ansi_slice.proofs.Common.{◌∙◌, ap, arith, length, style_within}
use Rattle.ansi_slice.proofs.SideWalkLemmas.{right_side-is}
use Rattle.ansi_slice.proofs.LengthLemmas.{length-sides}
use Rattle.ansi_slice.proofs.slice.sides.right_in.Goals as goal

pub returns-clause-bytes : goal.returns-clause-bytes
returns-clause-bytes g c =
    let t = c.args.text.now in
    c.in_ok-write_right.ensures
    ∙ right_side-is c.in-Some.ensures.offset c.range_from.ensures.value (c.in-Some.ensures.style ∙ ap (λ r. style_within r t c.args.mid) c.plain_style-style.ensures) (omega arith)

pub returns-then-not-has_any-clause-len : goal.returns-then-not-has_any-clause-len
returns-then-not-has_any-clause-len g c = omega (arith, ap length c.bare_sides.ensures.right, length-sides c.args.text.now c.args.mid)

pub returns-clause-len : goal.returns-clause-len
returns-clause-len g c = omega (arith, ap length (returns-clause-bytes g c), length-sides c.args.text.now c.args.mid)
