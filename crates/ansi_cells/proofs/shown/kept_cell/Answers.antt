use Rattle.std.proofs.Common.{drop, ◌≡◌, subst}
use Rattle.std.specs.Prelude.{IfSome, IfOk, ◌↔◌}
use Rattle.std.specs.Cow.{IsBorrowedStr}
use Rattle.ansi_safe.specs.Cells.{cell}
use Rattle.ansi_safe.proofs.CellTextLemmas.{cell-rest}
use Rattle.ansi_cells.specs.PlainCells.{IsFront}
use Rattle.ansi_cells.proofs.PlainFrontLemmas.{front-part, front-rest}
use Rattle.ansi_cells.proofs.shown.kept_cell.Goals as goal

-- the front stays, and leaves its style open

pub cell_and_ending_after-requires-clause-stays : goal.cell_and_ending_after-requires-clause-stays
cell_and_ending_after-requires-clause-stays g c =
    (front-part c.args.text.now c.args.width c.args.end c.in-Some.front (subst (λ o. IfSome o (IsFront c.args.text.now c.args.width)) c.in-Some.is c.requires.front) c.in-Some-run.is c.range-kept.ensures.value c.if-run-end.true).stays

pub cell_and_ending_after-requires-clause-style : goal.cell_and_ending_after-requires-clause-style
cell_and_ending_after-requires-clause-style g c =
    (front-part c.args.text.now c.args.width c.args.end c.in-Some.front (subst (λ o. IfSome o (IsFront c.args.text.now c.args.width)) c.in-Some.is c.requires.front) c.in-Some-run.is c.range-kept.ensures.value c.if-run-end.true).style_is

pub cell_and_ending_after-requires-clause-link : goal.cell_and_ending_after-requires-clause-link
cell_and_ending_after-requires-clause-link g c =
    (front-part c.args.text.now c.args.width c.args.end c.in-Some.front (subst (λ o. IfSome o (IsFront c.args.text.now c.args.width)) c.in-Some.is c.requires.front) c.in-Some-run.is c.range-kept.ensures.value c.if-run-end.true).link_is

pub cell_and_ending_after-requires-clause-rest : goal.cell_and_ending_after-requires-clause-rest
cell_and_ending_after-requires-clause-rest g c same =
    let t = c.args.text.now in
    let kept = c.range-kept.result.now in
    let n = c.in-Some-run.run'.offset in
    let front = subst (λ o. IfSome o (IsFront t c.args.width)) c.in-Some.is c.requires.front in
    cell-rest kept (drop n kept) c.range-kept.utf8 (front-rest t c.args.width c.args.end c.in-Some.front front c.in-Some-run.is c.range-kept.ensures.value c.if-run-end.true) same

pub returns-clause-borrowed : goal.returns-clause-borrowed
returns-clause-borrowed g c =
    subst (λ u. IfOk c.cell_and_ending_after.result (λ r. IsBorrowedStr r.0 ↔ (cell u ≡ u))) c.range-kept.ensures.value c.cell_and_ending_after.ensures.borrowed
