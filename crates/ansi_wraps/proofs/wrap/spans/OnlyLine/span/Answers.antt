use Rattle.std.proofs.Common.{[], ◌∷◌, refl, sym, ◌∙◌, ap, ap₂}
use Rattle.ansi_items.specs.Plain.{plain, marks}
use Rattle.ansi_style.specs.Rendition.{plain_style}
use Rattle.ansi_cells.specs.Wrapped.{line_over}
use Rattle.ansi_wraps.proofs.OnlyLineLemmas.{only-line, only-span}
use Rattle.ansi_wraps.proofs.wrap.spans.OnlyLine.span.Goals as goal

pub invariant_of-result : goal.invariant_of-result
invariant_of-result c = (let is = c.requires.1 in only-span is.is_cell is.len c.plain_pen.ensures.style c.plain_pen.ensures.link refl refl)

pub returns : goal.returns
returns c = λ width is.
    let t = c.args.text.now in
    only-line is.is_cell is.solid
    ∙ ap (λ n. line_over plain_style [] (plain t) (marks t) (0, n) ∷ []) (sym is.len)
    ∙ ap₂ (λ r l. line_over r l (plain t) (marks t) (0, c.args.self.len) ∷ []) (sym c.plain_pen.ensures.style) (sym c.plain_pen.ensures.link)
