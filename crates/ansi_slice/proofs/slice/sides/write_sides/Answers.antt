use Rattle.ansi_slice.proofs.Common.{◌++◌, sym, ◌∙◌, ap, ap₂, arith, pieces_of, style_within, side_up_to}
use Rattle.ansi_slice.proofs.SideWalkLemmas.{left_side-is, right_side-is}
use Rattle.ansi_slice.proofs.slice.sides.write_sides.Goals as goal

-- the left side begins in the plain style
pub returns-clause-left : goal.returns-clause-left
returns-clause-left g c =
    let t = c.args.text.now in
    c.in_ok-end.ensures.bytes ∙ ap₂ (λ v r. v ++ side_up_to r c.args.mid (pieces_of t)) c.new-left.ensures.bytes c.plain_style-style.ensures ∙ sym (left_side-is t c.args.mid)

-- the right side goes on where the left one ends
pub returns-clause-right : goal.returns-clause-right
returns-clause-right g c =
    let styled = c.in_ok-end.ensures.style ∙ ap (λ r. style_within r c.args.text.now c.args.mid) c.plain_style-style.ensures in
    c.in_ok-right.ensures ∙ right_side-is c.in_ok-end.ensures.offset c.range_from.ensures.value styled (omega arith)
