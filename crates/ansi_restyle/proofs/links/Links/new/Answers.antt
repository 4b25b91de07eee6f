use Rattle.std.proofs.Common.{arith}
use Rattle.ansi_items.proofs.PlainLemmas.{length-plain}
use Rattle.ansi_restyle.proofs.LinkWalkLemmas.{left-all}
use Rattle.ansi_restyle.proofs.links.Links.new.Goals as goal

pub invariant_of-result : goal.invariant_of-result
invariant_of-result c = (let size = length-plain c.args.text.now in omega (arith, size, c.well_formed.0.0))

pub returns : goal.returns
returns c = left-all c.args.text.now
