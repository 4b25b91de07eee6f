use Rattle.ansi_slice.proofs.Common.{take, drop, sym, ◌∙◌, ap, take_min, drop_min, plain-bare, arith}
use Rattle.ansi_search.proofs.PositionLemmas.{boundary_inside}
use Rattle.ansi_slice.proofs.SideLemmas.{left_side-bare, right_side-bare}
use Rattle.ansi_slice.proofs.slice.sides.bare_sides.Goals as goal

-- a text without ESC is its own plain text, and its sides are slices

pub split_at-requires : goal.split_at-requires
split_at-requires c = grind (arith, boundary_inside, plain-bare)

pub returns-clause-left : goal.returns-clause-left
returns-clause-left c =
    let t = c.args.text.now in
    c.split_at.ensures.front ∙ ap (λ n. take n t) c.min.ensures ∙ take_min c.args.mid t ∙ sym (left_side-bare t c.args.mid c.requires.bare)

pub returns-clause-right : goal.returns-clause-right
returns-clause-right c =
    let t = c.args.text.now in
    c.split_at.ensures.back ∙ ap (λ n. drop n t) c.min.ensures ∙ drop_min c.args.mid t ∙ sym (right_side-bare t c.args.mid c.requires.bare)
