use Rattle.std.proofs.Common.{refl}
use Rattle.ansi_style.proofs.state.compare.StyleHash.hash.Goals as goal

-- what is hashed of a style is what is hashed of its rendition
pub returns : goal.returns
returns g c = rw c.hash.ensures (rw c.rendition.ensures refl)
