use Rattle.ansi_style.proofs.Common.{rules, rendition_of}
use Rattle.ansi_style.proofs.state.Style.is_faint.Goals as goal

-- the bit of the attribute is asked
pub returns : goal.returns
unfolding rendition_of
returns c = search rules
