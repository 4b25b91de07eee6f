use Rattle.std.proofs.Common.{◌-◌, refl, arith}
use Rattle.ansi_cells.proofs.PlainFrontLemmas.{plain-ahead, plain-cut, plain-over}
use Rattle.ansi_cells.proofs.plain_cells.plain_cut.Goals as goal

pub past_printable-requires-clause-ahead : goal.past_printable-requires-clause-ahead
past_printable-requires-clause-ahead c = λ some. plain-ahead _ c.requires.front (omega arith)

pub returns-then-fewer-front : goal.returns-then-fewer-front
returns-then-fewer-front c =
    let before = c.requires.front in
    let past = c.past_printable.ensures in
    let left = c.args.front.now.left in
    let k = left - (c.args.width - c.args.room) in
    plain-cut c.args.room k c.utf8.text before (omega arith) (omega (arith, c.requires.narrower, c.if-fewer-front.true)) (plain-over k before (omega arith) past.walk past.position past.clusters past.seen) past.offset

-- after another pass

pub past_printable-requires-2-clause-ahead : goal.past_printable-requires-2-clause-ahead
past_printable-requires-2-clause-ahead c =
    let before = rw c.in_ok-run.was at c.in_ok-front.ensures in
    λ some. plain-ahead _ before (omega arith)

pub returns : goal.returns
returns c =
    let before = rw c.in_ok-run.was at c.in_ok-front.ensures in
    let past = c.past_printable-2.ensures in
    let k = c.in_ok-front.front.left in
    plain-cut c.args.room k c.utf8.text before (omega arith) refl (plain-over k before (omega arith) past.walk past.position past.clusters past.seen) past.offset
