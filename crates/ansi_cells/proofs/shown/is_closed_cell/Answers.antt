use Rattle.std.proofs.Common.{◌++◌, refl, sym, ◌∙◌, ap, append-nil}
use Rattle.std.proofs.lemmas.Bool.{eqb-true}
use Rattle.std.proofs.lemmas.List.{nil_from_length}
use Rattle.ansi_style.specs.States.{rendition_of}
use Rattle.ansi_cells.specs.Shown.{closing}
use Rattle.ansi_cells.proofs.ShownLemmas.{ending-closing}
use Rattle.ansi_cells.proofs.shown.is_closed_cell.Goals as goal

-- it is the text of a cell, and what ends its pen is nothing
pub returns-then-is_cell : goal.returns-then-is_cell
returns-then-is_cell c = λ yes.
    let t = c.args.text.now in
    let pen = c.pen_after.ensures in
    let closes = ending-closing {t = t} refl pen.style pen.link c.ending.ensures.link_end (ap rendition_of c.ending.ensures.style) in
    let none = sym closes ∙ nil_from_length _ (eqb-true _ 0 (sym c.is_empty.ensures ∙ yes)) in
    ap (λ u. u ++ closing u) (c.is_cell.ensures.0 c.if-is_cell.true) ∙ ap (λ e. t ++ e) none ∙ append-nil t
