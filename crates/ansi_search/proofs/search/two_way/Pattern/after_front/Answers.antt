use Rattle.ansi_search.proofs.Common.{arith}
use Rattle.ansi_search.proofs.WindowLemmas.{reached-apart, comes-repeats, point-later}
use Rattle.ansi_search.proofs.search.two_way.Pattern.after_front.Goals as goal

pub returns-then-not-self-clause-comes : goal.returns-then-not-self-clause-comes
returns-then-not-self-clause-comes c t start apart =
    c.window_at.ensures.comes t start (reached-apart c.args.self.now.is_cut apart) (point-later apart.point (omega arith))

-- it is one
pub returns-clause-comes : goal.returns-clause-comes
returns-clause-comes c t start apart = comes-repeats c.args.self.now.is_cut c.if-not-self.false apart
