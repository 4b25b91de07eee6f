use Rattle.std.proofs.Common.{◌∙◌, arith}
use Rattle.std.proofs.lemmas.Result.{IfOk-weaker}
use Rattle.ansi_safe.specs.Cells.{cell}
use Rattle.ansi_cells.proofs.IndentLemmas.{padded-closed_alone}
use Rattle.ansi_cells.proofs.shown.closed_cell.Goals as goal

pub returns-clause-bytes : goal.returns-clause-bytes
returns-clause-bytes g c = IfOk-weaker c.pad.result _ _ (λ s is. is ∙ padded-closed_alone (cell c.args.text.now)) c.pad.ensures.bytes

pub returns-clause-takes_no_memory : goal.returns-clause-takes_no_memory
returns-clause-takes_no_memory g c = λ all. c.pad.ensures.takes_no_memory (all.0, omega arith, all.1)
