use Rattle.std.proofs.Common.{Some, sym, ◌∙◌, ap, subst, All}
use Rattle.ansi_items.specs.Plain.{plain}
use Rattle.ansi_items.proofs.Utf8Lemmas.{IsUtf8-plain}
use Rattle.ansi_clusters.specs.declared.views.View.TheVariants.{Lined}
use Rattle.ansi_clusters.specs.Lines.{seen_lines_left, IsGoodLine}
use Rattle.ansi_clusters.proofs.LineStartLemmas.{shown_lines-start}
use Rattle.ansi_clusters.proofs.ShownLineLemmas.{shown_lines-first_fit, shown_lines_are_good}
use Rattle.ansi_clusters.proofs.lines.Lines.new.Goals as goal

pub returns-clause-first_fit : goal.returns-clause-first_fit
returns-clause-first_fit c =
    let t = c.args.text.now in
    shown_lines-first_fit c.args.width (plain t) _
    (ap (λ width. seen_lines_left Lined t width (Some c.start.result)) c.max.ensures ∙ shown_lines-start t c.args.width c.start.result c.utf8.text c.start.ensures.position)

pub returns-clause-good : goal.returns-clause-good
returns-clause-good c =
    let t = c.args.text.now in
    let same = ap (λ width. seen_lines_left Lined t width (Some c.start.result)) c.max.ensures ∙ shown_lines-start t c.args.width c.start.result c.utf8.text c.start.ensures.position in
    subst (All (IsGoodLine (plain t))) (sym same) (shown_lines_are_good (plain t) c.args.width (IsUtf8-plain t c.utf8.text))
