use Rattle.std.proofs.Common.{◌∙◌, ap}
use Rattle.std.specs.Cow.{cow_str_bytes}
use Rattle.ansi_cells.specs.Indents.{indented}
use Rattle.ansi_cells.specs.Wrapped.{lent_lines, wrapped}
use Rattle.ansi_wraps.specs.WrapStates.{lends}
use Rattle.ansi_wraps.proofs.EditWrapLemmas.{indented-lent}
use Rattle.ansi_wraps.proofs.wrap.indents.wrap_edited.Goals as goal

pub returns-clause-lines : goal.returns-clause-lines
returns-clause-lines g c =
    let lent = lends c.args.text in
    let t = cow_str_bytes c.args.text in
    ap (indented c.args.to.now.first_indent.now c.args.to.now.indent.now) (c.wrap_cow.ensures.lines ∙ ap (λ width. lent_lines lent (wrapped t width)) c.text_width.ensures.width)
    ∙ indented-lent lent c.args.to.now.first_indent.now c.args.to.now.indent.now _
