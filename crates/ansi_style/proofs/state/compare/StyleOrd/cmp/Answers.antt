use Rattle.std.proofs.Common.{rules}
use Rattle.ansi_style.proofs.state.compare.StyleOrd.cmp.Goals as goal

-- the order of two styles is that of their renditions
pub returns : goal.returns
returns c = search rules
