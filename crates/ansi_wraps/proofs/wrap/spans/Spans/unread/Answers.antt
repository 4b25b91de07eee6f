use Rattle.std.proofs.Common.{sym, ◌∙◌, ap, subst}
use Rattle.ansi_wraps.specs.WrapStates.{lines_at, lines_next, HasNext, AreSpansAt}
use Rattle.ansi_wraps.proofs.LentLemmas.{new-lines, new-spans}
use Rattle.ansi_cells.proofs.WrapLemmas.{lines_left-start}
use Rattle.ansi_wraps.proofs.wrap.spans.Spans.unread.Goals as goal

pub returns-clause-spans : goal.returns-clause-spans
returns-clause-spans c =
    let t = c.args.text.now in
    let s = c.begin.result in
    subst (AreSpansAt t s) (sym c.begin.ensures.next) (new-spans t s c.start.result c.utf8.text c.begin.ensures.new c.start.ensures.walk)

pub returns-clause-some : goal.returns-clause-some
returns-clause-some c = subst HasNext (sym c.begin.ensures.next) tt

pub returns-clause-lines : goal.returns-clause-lines
returns-clause-lines c t =
    let s = c.begin.result in
    let made = c.begin.ensures in
    new-lines t s s.next (ap (lines_next t s.width) made.next ∙ lines_left-start t s.width c.start.result c.start.ensures.position) made.new ∙ ap (lines_at t) (made.width ∙ c.max.ensures)
