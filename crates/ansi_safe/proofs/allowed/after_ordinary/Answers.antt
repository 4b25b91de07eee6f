use Rattle.std.proofs.Common.{true, chars, length, length-append, ap, arith}
use Rattle.ansi_safe.proofs.AllowedLemmas.{stand_after_ordinary}
use Rattle.ansi_safe.proofs.allowed.after_ordinary.Goals as goal

pub returns-clause-decides : goal.returns-clause-decides
returns-clause-decides c =
    stand_after_ordinary true (chars c.args.run.now) c.split_ordinary.result.0.now (chars c.split_ordinary.result.1.now) c.split_ordinary.ensures.utf8 c.split_ordinary.ensures.ordinary c.split_ordinary.ensures.chars

pub returns-clause-shorter : goal.returns-clause-shorter
returns-clause-shorter c =
    omega (arith, ap length c.split_ordinary.ensures.chars, length-append (chars c.split_ordinary.result.0.now) (chars c.split_ordinary.result.1.now))
