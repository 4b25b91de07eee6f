use Rattle.ansi_str.proofs.Common.{arith, plain, split_is_one, length-parts, plain-all_parts, length-all_parts, plain_parts_are_split, plain-all_parts-empty}
use Rattle.ansi_str.proofs.laws.parts_are_std.Goals as goal

pub returns-clause-split : goal.returns-clause-split
returns-clause-split c = plain_parts_are_split

pub returns-clause-one : goal.returns-clause-one
returns-clause-one c = split_is_one

pub returns-clause-characters : goal.returns-clause-characters
returns-clause-characters c = plain-all_parts-empty

pub returns-clause-slices : goal.returns-clause-slices
returns-clause-slices c = plain-all_parts

pub returns-clause-few : goal.returns-clause-few
returns-clause-few c = λ t p. omega (arith, length-all_parts t p, length-parts (plain t) p)
