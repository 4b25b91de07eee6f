use Rattle.ansi_style.proofs.Common.{sym}
use Rattle.ansi_style.proofs.state.Style.set_color.Goals as goal

pub returns-in-Some : goal.returns-in-Some
returns-in-Some c = c.put_color.ensures _ _ (sym c.in-Some.ensures.read)
