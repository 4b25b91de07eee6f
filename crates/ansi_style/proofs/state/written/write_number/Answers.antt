use Rattle.ansi_style.proofs.DecimalLemmas.{one_digit, two_digits, three_digits}
use Rattle.ansi_style.proofs.state.written.write_number.Goals as goal

-- the digits of each length
pub returns-then-number-lt10-clause-wrote : goal.returns-then-number-lt10-clause-wrote
returns-then-number-lt10-clause-wrote g c = λ ok. rw (← one_digit c.args.number c.if-number-lt10.true) (c.write_ended.ensures.wrote ok)

pub returns-then-number-lt100-clause-wrote : goal.returns-then-number-lt100-clause-wrote
returns-then-number-lt100-clause-wrote g c = λ ok. rw (← two_digits c.args.number c.if-number-lt10.false c.if-number-lt100.true) (c.write_ended-then-number-lt100.ensures.wrote ok)

pub returns-else-number-lt100-clause-wrote : goal.returns-else-number-lt100-clause-wrote
returns-else-number-lt100-clause-wrote g c = λ ok. rw (← three_digits c.args.number c.if-number-lt100.false c.ranges.number.fits) (c.write_ended-else-number-lt100.ensures.wrote ok)
