use Rattle.std.proofs.Common.{length, ap, arith}
use Rattle.ansi_safe.specs.declared.cells.Place.TheVariants.{Cell}
use Rattle.ansi_safe.proofs.CellTextLemmas.{length-placed}
use Rattle.ansi_safe.proofs.cells.written_cell.Goals as goal

pub returns-clause-len : goal.returns-clause-len
returns-clause-len g c = omega (arith, ap length c.in_ok-cell.ensures, length-placed Cell c.args.text.now c.utf8.text)
