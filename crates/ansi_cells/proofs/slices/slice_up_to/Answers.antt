use Rattle.std.proofs.Common.{◌↔◌, IfOk, IsTrue, subst}
use Rattle.std.specs.Cow.{IsBorrowedStr}
use Rattle.ansi_cells.specs.Slices.{joined_parts}
use Rattle.ansi_cells.proofs.SliceLemmas.{sliced-nothing, length-if_ok}
use Rattle.ansi_cells.proofs.slices.slice_up_to.Goals as goal

pub returns-in-Some-clause-borrowed : goal.returns-in-Some-clause-borrowed
returns-in-Some-clause-borrowed g c = subst (λ b. IfOk c.write.result (λ s. IsBorrowedStr s ↔ IsTrue b)) c.in-Some.ensures.alone c.write.ensures.borrowed

pub returns-in-Some-clause-len : goal.returns-in-Some-clause-len
returns-in-Some-clause-len g c = length-if_ok (joined_parts c.in-Some.parts) c.write.result c.write.ensures.bytes c.in-Some.ensures.len

pub returns-in-None-clause-bytes : goal.returns-in-None-clause-bytes
returns-in-None-clause-bytes g c = sliced-nothing c.args.text.now c.args.start c.args.end c.in-None.ensures
