use Rattle.ansi_slice.proofs.Common.{◌++◌, sym, ◌∙◌, ap, ap₂, arith, length, pieces_of, side_up_to}
use Rattle.ansi_slice.proofs.SideWalkLemmas.{left_side-is}
use Rattle.ansi_slice.proofs.LengthLemmas.{length-sides}
use Rattle.ansi_slice.proofs.slice.sides.left_in.Goals as goal

pub returns-clause-bytes : goal.returns-clause-bytes
returns-clause-bytes g c =
    let t = c.args.text.now in
    c.in_ok-write_side.ensures.bytes ∙ ap₂ (λ v r. v ++ side_up_to r c.args.mid (pieces_of t)) c.new-left.ensures.bytes c.plain_style-style-2.ensures ∙ sym (left_side-is t c.args.mid)

pub returns-then-not-has_any-clause-len : goal.returns-then-not-has_any-clause-len
returns-then-not-has_any-clause-len g c = omega (arith, ap length c.bare_sides.ensures.left, length-sides c.args.text.now c.args.mid)

pub returns-clause-len : goal.returns-clause-len
returns-clause-len g c = omega (arith, ap length (returns-clause-bytes g c), length-sides c.args.text.now c.args.mid)
