use Rattle.std.proofs.Common.{arith}
use Rattle.ansi_search.proofs.WindowLemmas.{point-first}
use Rattle.ansi_search.proofs.search.two_way.Pattern.first_window.Goals as goal

pub returns-clause-comes : goal.returns-clause-comes
returns-clause-comes c t utf8 within =
    c.window_at.ensures.comes t c.args.position (record { forward = omega arith; within = within; none = λ k low high _. omega (arith, low, high) })
    (point-first t c.args.position utf8)
