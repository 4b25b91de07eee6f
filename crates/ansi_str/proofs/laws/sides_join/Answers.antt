use Rattle.ansi_slice.proofs.SideSliceLemmas.{styled-sides}
use Rattle.ansi_str.proofs.laws.sides_join.Goals as goal

pub returns : goal.returns
returns c = styled-sides
