use Rattle.std.proofs.Common.{IfSome, sym, subst, arith}
use Rattle.ansi_safe.specs.Cells.{cell}
use Rattle.ansi_clusters.specs.declared.views.View.TheVariants.{Shown}
use Rattle.ansi_safe.proofs.CellTextLemmas.{length-cell}
use Rattle.ansi_cells.proofs.MissingLemmas.{IsLack, known_if}
use Rattle.ansi_cells.proofs.PlainCellLemmas.{plain-uncut}
use Rattle.ansi_cells.proofs.PlainFrontLemmas.{plain-before, plain-lack, plain-truncated, plain-wide}
use Rattle.ansi_cells.proofs.ShownLemmas.{cut-ending, cut-bytes, cut-length}
use Rattle.ansi_cells.proofs.shown.plain_parts.Goals as goal

-- the text fits

pub returns-in_default-clause-bytes : goal.returns-in_default-clause-bytes
returns-in_default-clause-bytes g c = cut-bytes (plain-uncut c.args.tail.now c.utf8.text (rw c.in_default.is at c.requires).is_cell).cut

pub returns-in_default-clause-ending : goal.returns-in_default-clause-ending
returns-in_default-clause-ending g c = cut-ending (plain-uncut c.args.tail.now c.utf8.text (rw c.in_default.is at c.requires).is_cell).cut

pub returns-in_default-clause-borrowed : goal.returns-in_default-clause-borrowed
returns-in_default-clause-borrowed g c = (λ _. (plain-uncut c.args.tail.now c.utf8.text (rw c.in_default.is at c.requires).is_cell).kept, λ _. tt)

pub returns-in_default-clause-len : goal.returns-in_default-clause-len
returns-in_default-clause-len g c =
    omega (arith, cut-length (plain-uncut c.args.tail.now c.utf8.text (rw c.in_default.is at c.requires).is_cell).cut, length-cell c.args.text.now c.utf8.text)

pub returns-in_default-clause-missing : goal.returns-in_default-clause-missing
returns-in_default-clause-missing g c = (plain-uncut c.args.tail.now c.utf8.text (rw c.in_default.is at c.requires).is_cell).lack

-- it doesn't

pub goes_past-requires : goal.goes_past-requires
goes_past-requires g c = (Shown, (rw c.in-Some.is at c.requires).is_walk)

pub plain_cut-requires-clause-front : goal.plain_cut-requires-clause-front
plain_cut-requires-clause-front g c = plain-before (rw c.in-Some.is at c.requires) (c.goes_past.ensures c.if-not-goes_past.false)

pub returns-clause-bytes : goal.returns-clause-bytes
returns-clause-bytes g c =
    let wide = plain-wide (plain-before (rw c.in-Some.is at c.requires) (c.goes_past.ensures c.if-not-goes_past.false)) in
    let beside = c.beside-room.ensures in
    let t = c.args.text.now in
    cut-bytes (plain-truncated c.args.width c.args.tail.now c.utf8.text c.in_ok-cut.ensures (beside.room (cell t) wide) (beside.tail (cell t) wide) c.range.ensures.value).cut

pub returns-clause-ending : goal.returns-clause-ending
returns-clause-ending g c =
    let wide = plain-wide (plain-before (rw c.in-Some.is at c.requires) (c.goes_past.ensures c.if-not-goes_past.false)) in
    let beside = c.beside-room.ensures in
    let t = c.args.text.now in
    cut-ending (plain-truncated c.args.width c.args.tail.now c.utf8.text c.in_ok-cut.ensures (beside.room (cell t) wide) (beside.tail (cell t) wide) c.range.ensures.value).cut

pub returns-clause-borrowed : goal.returns-clause-borrowed
returns-clause-borrowed g c =
    let wide = plain-wide (plain-before (rw c.in-Some.is at c.requires) (c.goes_past.ensures c.if-not-goes_past.false)) in
    let beside = c.beside-room.ensures in
    let t = c.args.text.now in
    (λ _. (plain-truncated c.args.width c.args.tail.now c.utf8.text c.in_ok-cut.ensures (beside.room (cell t) wide) (beside.tail (cell t) wide) c.range.ensures.value).kept, λ _. tt)

pub returns-clause-len : goal.returns-clause-len
returns-clause-len g c =
    let wide = plain-wide (plain-before (rw c.in-Some.is at c.requires) (c.goes_past.ensures c.if-not-goes_past.false)) in
    let beside = c.beside-room.ensures in
    let t = c.args.text.now in
    let truncated = plain-truncated c.args.width c.args.tail.now c.utf8.text c.in_ok-cut.ensures (beside.room (cell t) wide) (beside.tail (cell t) wide) c.range.ensures.value in
    omega (arith, cut-length truncated.cut, length-cell t c.utf8.text)

pub returns-clause-missing : goal.returns-clause-missing
returns-clause-missing g c =
    let wide = plain-wide (plain-before (rw c.in-Some.is at c.requires) (c.goes_past.ensures c.if-not-goes_past.false)) in
    let beside = c.beside-room.ensures in
    let t = c.args.text.now in
    let lacks = IsLack (cell t) c.args.width c.args.tail.now in
    subst (λ o. IfSome o lacks) (sym c.then_some.ensures)
    (known_if lacks c.is_known_apart.result 0 (λ holds. plain-lack c.args.width c.args.tail.now c.beside-room.result.1.now c.utf8.text c.in_ok-cut.ensures (beside.room (cell t) wide) (beside.tail (cell t) wide) beside.sum (c.is_known_apart.ensures.bare holds) (c.is_known_apart.ensures.breaks holds)))
