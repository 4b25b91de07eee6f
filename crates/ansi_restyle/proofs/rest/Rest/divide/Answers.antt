use Rattle.std.proofs.lemmas.Bool.{or_parts}
use Rattle.ansi_restyle.proofs.rest.Rest.divide.Goals as goal

-- past the run no good position is refused
pub returns-in_default : goal.returns-in_default
returns-in_default c = (or_parts _ _ c.in_default.ensures).1
