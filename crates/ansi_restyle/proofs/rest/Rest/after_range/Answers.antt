use Rattle.ansi_restyle.proofs.TurnLemmas.{bad-end, good-range}
use Rattle.ansi_restyle.proofs.rest.Rest.after_range.Goals as goal

-- a character goes on where the range ends
pub returns-in_default-divide : goal.returns-in_default-divide
returns-in_default-divide c = bad-end c.args.self.now.text.now c.args.place c.args.range c.if-start-place.false c.if-end-start.false c.in-Some.ensures c.in_default-divide.ensures

pub returns : goal.returns
returns c = good-range c.args.self.now.text.now c.args.place c.args.range c.if-start-place.false c.if-end-start.false c.in-Some.ensures c.in-Some-divide.ensures
