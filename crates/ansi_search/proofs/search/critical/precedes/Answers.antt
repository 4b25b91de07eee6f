use Rattle.ansi_search.proofs.Common.{◌≤◌, arith, ltb-true, ltb-false}
use Rattle.ansi_search.proofs.TwoWayLemmas.{Precedes-rising, Precedes-falling}
use Rattle.ansi_search.proofs.search.critical.precedes.Goals as goal

pub returns-then-is_rising-clause-yes : goal.returns-then-is_rising-clause-yes
returns-then-is_rising-clause-yes c less = Precedes-rising _ _ _ c.if-is_rising.true (ltb-true _ _ less)

pub returns-then-is_rising-clause-no : goal.returns-then-is_rising-clause-no
returns-then-is_rising-clause-no c other = (let upto : c.args.other ≤ c.args.byte = ltb-false _ _ other in Precedes-rising _ _ _ c.if-is_rising.true (omega (arith, upto, c.requires)))

pub returns-else-is_rising-clause-yes : goal.returns-else-is_rising-clause-yes
returns-else-is_rising-clause-yes c less = Precedes-falling _ _ _ c.if-is_rising.false (ltb-true _ _ less)

pub returns-else-is_rising-clause-no : goal.returns-else-is_rising-clause-no
returns-else-is_rising-clause-no c other = (let upto : c.args.byte ≤ c.args.other = ltb-false _ _ other in Precedes-falling _ _ _ c.if-is_rising.false (omega (arith, upto, c.requires)))
