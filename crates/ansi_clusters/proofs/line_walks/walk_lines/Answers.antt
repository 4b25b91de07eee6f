use Rattle.std.proofs.Common.{◌∙◌, max, ap}
use Rattle.ansi_clusters.specs.declared.views.View.TheVariants.{Lined}
use Rattle.ansi_clusters.specs.Lines.{seen_lines_left}
use Rattle.ansi_clusters.specs.LineWalks.{walk_of}
use Rattle.ansi_clusters.proofs.LineStartLemmas.{shown_lines-start}
use Rattle.ansi_clusters.proofs.line_walks.walk_lines.Goals as goal

-- the walk begins at the start of the text
pub returns-clause-lines : goal.returns-clause-lines
returns-clause-lines c =
    let text = c.args.text.now in
    ap (λ t. seen_lines_left Lined t c.of.result.width (walk_of c.of.result)) c.of.ensures.text
    ∙ ap (λ n. seen_lines_left Lined text n (walk_of c.of.result)) (c.of.ensures.width ∙ c.max.ensures)
    ∙ ap (seen_lines_left Lined text (max c.args.width 1)) c.of.ensures.next ∙ shown_lines-start text c.args.width c.start.result c.utf8.text c.start.ensures.position
