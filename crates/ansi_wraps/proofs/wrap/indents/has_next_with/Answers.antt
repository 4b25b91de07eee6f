use Rattle.std.proofs.Common.{sym, ◌∙◌, ap}
use Rattle.ansi_cells.specs.Indents.{indented}
use Rattle.ansi_cells.proofs.IndentLemmas.{indented-none}
use Rattle.ansi_wraps.proofs.wrap.indents.has_next_with.Goals as goal

pub returns : goal.returns
returns g c =
    let s = c.lines.inside in
    let first = s.next_indent.now in
    let later = s.indent.now in (
      λ none. sym c.lines.view_is ∙ ap (indented first later) (c.has_next.ensures.0 none),
      λ empty. c.has_next.ensures.1 (indented-none first later s.lines (c.lines.view_is ∙ empty)),
    )
