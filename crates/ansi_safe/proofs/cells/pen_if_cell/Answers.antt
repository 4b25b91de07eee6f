use Rattle.std.proofs.Common.{sym, ◌∙◌, ap}
use Rattle.std.proofs.lemmas.Bool.{eqb-true}
use Rattle.std.proofs.lemmas.List.{nil_from_length}
use Rattle.ansi_safe.specs.Cells.{is_cell}
use Rattle.ansi_safe.proofs.cells.pen_if_cell.Goals as goal

pub returns-then-is_empty-clause-none : goal.returns-then-is_empty-clause-none
returns-then-is_empty-clause-none c =
    let none = nil_from_length c.after_staying-rest.result.now (eqb-true _ 0 (sym c.is_empty.ensures ∙ c.if-is_empty.true)) in
    sym (c.after_staying-rest.ensures.stays ∙ ap is_cell none)

pub returns-clause-none : goal.returns-clause-none
returns-clause-none c = c.pen_after_items.ensures.none ∙ sym c.after_staying-rest.ensures.stays
