use Rattle.std.proofs.Common.{arith}
use Rattle.std.proofs.lemmas.List.{take_all}
use Rattle.ansi_safe.proofs.utf8.is_ascii_by_1.Goals as goal

pub returns : goal.returns
returns c = λ _. rw (take_all c.loop-at.at c.args.bytes.now (omega arith)) at c.loop-at.invariant.1
