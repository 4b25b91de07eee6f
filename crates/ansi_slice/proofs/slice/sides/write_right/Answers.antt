use Rattle.ansi_slice.proofs.Common.{arith, plain, length-plain}
use Rattle.ansi_search.proofs.PositionLemmas.{no_character_goes_on-past}
use Rattle.ansi_slice.proofs.slice.sides.write_right.Goals as goal

-- the largest position lies past the end of each text
pub write_side-requires : goal.write_side-requires
write_side-requires g c = no_character_goes_on-past (plain c.args.text.now) _ (omega (arith, length-plain c.args.text.now))
