use Rattle.std.proofs.Common.{◌∙◌, ◌==◌, [], length, refl, sym, ap}
use Rattle.ansi_style.proofs.UnsetLemmas.{close-unknown}
use Rattle.ansi_style.specs.States.{rendition_of}
use Rattle.ansi_view_runs.specs.LineViews.{line_of}
use Rattle.ansi_view_runs.proofs.PlainLineLemmas.{plain-ending}
use Rattle.ansi_view_runs.proofs.StayLemmas.{line_stays}
use Rattle.ansi_view_runs.proofs.plain_lines.PlainLine.of.Goals as goal

-- it is safe, and nothing has to be closed at its end

pub returns-clause-shown : goal.returns-clause-shown
returns-clause-shown c =
    let t = c.args.text.now in
    let is = c.in_ok-cell.ensures in
    let closed = close-unknown (rendition_of c.in_ok-cell.cell.style) (sym c.has_close.ensures ∙ c.if-has_close.false) in
    (line_stays c.args.view [] (line_of c.args.line.now) t c.requires refl (is.text.safe c.args.view.policy.links) (ap (λ u. length u == 0) (plain-ending is.text closed))).0

pub returns-clause-opening : goal.returns-clause-opening
returns-clause-opening c =
    let t = c.args.text.now in
    let is = c.in_ok-cell.ensures in
    let closed = close-unknown (rendition_of c.in_ok-cell.cell.style) (sym c.has_close.ensures ∙ c.if-has_close.false) in
    (line_stays c.args.view [] (line_of c.args.line.now) t c.requires refl (is.text.safe c.args.view.policy.links) (ap (λ u. length u == 0) (plain-ending is.text closed))).1
