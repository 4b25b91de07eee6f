use Rattle.std.proofs.Common.{◌∙◌, arith}
use Rattle.std.specs.Cow.{cow_str_bytes}
use Rattle.std.proofs.lemmas.Result.{IfOk-weaker}
use Rattle.ansi_safe.specs.Cells.{cell}
use Rattle.ansi_cells.proofs.IndentLemmas.{padded-closed_alone}
use Rattle.ansi_columns.proofs.edits.close_cell.Goals as goal

-- padding to no column closes the text of a cell

pub returns-clause-bytes : goal.returns-clause-bytes
returns-clause-bytes g c = IfOk-weaker c.edit_column.result _ _ (λ s is. is ∙ padded-closed_alone (cell (cow_str_bytes c.args.text))) c.edit_column.ensures.bytes

pub returns-clause-utf8 : goal.returns-clause-utf8
returns-clause-utf8 g c = IfOk-weaker c.edit_column.result _ _ (λ s utf8. utf8.0) c.edit_column.ensures.utf8

pub returns-clause-borrowed : goal.returns-clause-borrowed
returns-clause-borrowed g c = IfOk-weaker c.edit_column.result _ _ (λ s iff. (λ b. (let is = iff.0 b in (is.0, (is.1.0, is.1.2))), λ all. iff.1 (all.0, (all.1.0, omega arith, all.1.1)))) c.edit_column.ensures.borrowed

pub returns-clause-len : goal.returns-clause-len
returns-clause-len g c = IfOk-weaker c.edit_column.result _ _ (λ s most. omega (arith, most)) c.edit_column.ensures.len

pub returns-clause-takes_no_memory : goal.returns-clause-takes_no_memory
returns-clause-takes_no_memory g c = λ all. c.edit_column.ensures.takes_no_memory (all.0, (all.1.0, omega arith, all.1.1))
