use Rattle.std.proofs.lemmas.Str.{IsUtf8-from_ascii}
use Rattle.ansi_safe.proofs.FrontLemmas.{printable-ascii}
use Rattle.ansi_cells.proofs.TailLemmas.{closed_cell-printing, Prints-printable}
use Rattle.ansi_columns.proofs.laws.printable_tails_stay.Goals as goal

pub returns : goal.returns
returns c = λ x printable. closed_cell-printing x (Prints-printable x (IsUtf8-from_ascii x (printable-ascii x printable)) printable)
