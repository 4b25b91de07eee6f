use Rattle.std.proofs.Common.{sym, ◌∙◌, arith}
use Rattle.ansi_cells.proofs.BareLemmas.{bare-truncated}
use Rattle.ansi_cells.proofs.bare.cut_bare.Goals as goal

pub returns-then-is_printable-clause-truncated : goal.returns-then-is_printable-clause-truncated
returns-then-is_printable-clause-truncated c =
    let is = c.is_ellipsis.ensures c.if-is_ellipsis.true in
    (bare-truncated c.args.text.now c.args.width c.in_ok-after.after c.args.tail.now c.range.result.now c.utf8.text (omega (arith, c.if-after-text.true)) (sym c.is_printable.ensures ∙ c.if-is_printable.true) (omega (arith, c.in_ok-after.ensures)) (omega (arith, c.if-width-gt0.true)) is c.range.ensures.value).truncated_is

pub returns-then-is_printable-clause-fitted : goal.returns-then-is_printable-clause-fitted
returns-then-is_printable-clause-fitted c =
    let is = c.is_ellipsis.ensures c.if-is_ellipsis.true in
    (bare-truncated c.args.text.now c.args.width c.in_ok-after.after c.args.tail.now c.range.result.now c.utf8.text (omega (arith, c.if-after-text.true)) (sym c.is_printable.ensures ∙ c.if-is_printable.true) (omega (arith, c.in_ok-after.ensures)) (omega (arith, c.if-width-gt0.true)) is c.range.ensures.value).fitted_is
