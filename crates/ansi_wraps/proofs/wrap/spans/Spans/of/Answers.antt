use Rattle.std.proofs.Common.{sym, ◌∙◌, ap, subst}
use Rattle.std.specs.Prelude.{IfSome}
use Rattle.ansi_safe.proofs.CellTextLemmas.{paragraph-stays}
use Rattle.ansi_cells.specs.PlainCells.{IsFront}
use Rattle.ansi_wraps.specs.WrapStates.{lines_at, lines_next, AreSpansAt}
use Rattle.ansi_wraps.proofs.LentLemmas.{new-lines, new-spans}
use Rattle.ansi_cells.proofs.WrapLemmas.{lines_left-start}
use Rattle.ansi_wraps.proofs.wrap.spans.Spans.of.Goals as goal

-- there is only one line

pub returns-clause-lines : goal.returns-clause-lines
returns-clause-lines c =
    let t = c.args.text.now in
    let s = c.begin.result in
    let made = c.begin.ensures in
    new-lines t s s.next (ap (lines_next t s.width) made.next) made.new ∙ ap (lines_at t) (made.width ∙ c.max-width.ensures)

pub returns-clause-paragraph : goal.returns-clause-paragraph
returns-clause-paragraph c =
    let is = subst (λ o. IfSome o (IsFront c.args.text.now c.max-width.result)) c.in-Some.is c.line_runs-front.ensures in
    let line = c.in-Some-line_of_front.ensures c.args.text.now c.max-width.result is in
    paragraph-stays c.args.text.now c.utf8.text line.is_cell.text.stays

-- or the first one begins at the beginning

pub returns-2-clause-spans : goal.returns-2-clause-spans
returns-2-clause-spans c =
    let t = c.args.text.now in
    let s = c.begin-2.result in
    subst (AreSpansAt t s) (sym c.begin-2.ensures.next) (new-spans t s c.start.result c.utf8.text c.begin-2.ensures.new c.start.ensures.walk)

pub returns-2-clause-lines : goal.returns-2-clause-lines
returns-2-clause-lines c =
    let t = c.args.text.now in
    let s = c.begin-2.result in
    let made = c.begin-2.ensures in
    new-lines t s s.next (ap (lines_next t s.width) made.next ∙ lines_left-start t s.width c.start.result c.start.ensures.position) made.new ∙ ap (lines_at t) (made.width ∙ c.max-width.ensures)
