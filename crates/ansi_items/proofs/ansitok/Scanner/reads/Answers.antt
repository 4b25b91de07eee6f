use Rattle.ansi_items.proofs.Common.{arith}
use Rattle.ansi_items.proofs.EscapeLemmas.{scanning_bound}
use Rattle.ansi_items.proofs.ansitok.Scanner.reads.Goals as goal

pub returns-clause-at_most : goal.returns-clause-at_most
returns-clause-at_most c = rw (← c.self.view_is) (omega (arith, scanning_bound _ _ _ _ c.self.invariant))

pub returns-clause-at_most_three : goal.returns-clause-at_most_three
returns-clause-at_most_three c = rw (← c.self.view_is) (omega (arith, scanning_bound _ _ _ _ c.self.invariant))

-- the search passed over each byte of the items so far
pub returns-clause-at_least : goal.returns-clause-at_least
returns-clause-at_least c = rw (← c.self.view_is) (omega (arith, c.self.invariant.each, c.self.invariant.next, c.self.invariant.boundary.0))
