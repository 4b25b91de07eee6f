use Rattle.ansi_wraps.proofs.OnlyLineLemmas.{only-left}
use Rattle.ansi_wraps.proofs.wrap.spans.Spans.only_style.Goals as goal

pub returns-in-Only : goal.returns-in-Only
returns-in-Only c = λ t are. (let both = rw c.in-Only.is at are in only-left c.args.self.now c.in-Only.is both.0 both.1)
