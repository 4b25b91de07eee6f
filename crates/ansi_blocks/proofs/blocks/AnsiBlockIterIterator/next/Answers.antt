use Rattle.ansi_blocks.proofs.Common.{length, ap, arith, rendition_of}
use Rattle.ansi_blocks.proofs.BlockLemmas.{blocks_from-nil}
use Rattle.ansi_blocks.proofs.BlockWalkLemmas.{not_borrowed}
use Rattle.ansi_blocks.proofs.blocks.AnsiBlockIterIterator.next.Goals as goal

-- if no run is found, no block is left; an empty text has no block
pub returns-in_err-run-clause-steps : goal.returns-in_err-run-clause-steps
returns-in_err-run-clause-steps g c = rw (c.from_residual.ensures, ← c.self.view_is) (c.in_err-run.ensures.none, blocks_from-nil (rendition_of c.first_styled_run.new.style))

-- if memory has run out, the first block that was left is no borrow
pub returns-in-Err-clause-steps : goal.returns-in-Err-clause-steps
returns-in-Err-clause-steps g c =
    rw (← c.self.view_is) ((_, _, c.in_ok-run.ensures.first, not_borrowed _ _ c.in_ok-run.ensures.awaited c.in-Err.ensures.takes_no_memory), blocks_from-nil (rendition_of c.first_styled_run.new.style))

-- nothing is left after an error
pub returns-in-Err-clause-goes : goal.returns-in-Err-clause-goes
returns-in-Err-clause-goes g c =
    let some = ap length c.in_ok-run.ensures.first in
    let none = ap length (blocks_from-nil (rendition_of c.first_styled_run.new.style)) in
    rw (← c.self.view_is) (record { on = λ _. (tt, tt, omega arith); keeps = tt; rests = λ _. tt })

-- the block is the first that was left, in the style that the run is in
pub returns-in-Ok-clause-steps : goal.returns-in-Ok-clause-steps
returns-in-Ok-clause-steps g c = rw (← c.self.view_is, c.in-Ok.ensures.bytes, c.in-Ok.ensures.borrowed) c.in_ok-run.ensures.first
