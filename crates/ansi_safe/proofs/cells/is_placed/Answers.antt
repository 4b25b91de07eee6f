use Rattle.std.proofs.Common.{sym, ◌∙◌, ap}
use Rattle.std.proofs.lemmas.Bool.{eqb-true}
use Rattle.std.proofs.lemmas.List.{nil_from_length}
use Rattle.ansi_safe.specs.Cells.{is_placed}
use Rattle.ansi_safe.proofs.cells.is_placed.Goals as goal

pub returns-then-is_empty : goal.returns-then-is_empty
returns-then-is_empty c =
    let none = nil_from_length c.after_staying-rest.result.now (eqb-true _ 0 (sym c.is_empty.ensures ∙ c.if-is_empty.true)) in
    c.if-is_empty.true ∙ sym (c.after_staying-rest.ensures.stays ∙ ap (is_placed c.args.place) none)

pub returns-else-is_empty : goal.returns-else-is_empty
returns-else-is_empty c = c.items_stay.ensures ∙ sym c.after_staying-rest.ensures.stays
