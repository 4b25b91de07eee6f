use Rattle.std.proofs.Common.{refl, arith}
use Rattle.std.proofs.lemmas.List.{take_all, take_rest}
use Rattle.ansi_safe.proofs.AsciiLemmas.{utf8_by_rest, utf8_if_ascii}
use Rattle.ansi_safe.proofs.utf8.is_utf8_by_1.Goals as goal

pub returns-then-bytes-at-ge128 : goal.returns-then-bytes-at-ge128
returns-then-bytes-at-ge128 c = utf8_by_rest c.loop-at.at c.args.bytes.now _ c.loop-at.invariant.1 (rw take_rest at c.is_short_utf8.ensures)

pub returns : goal.returns
returns c = utf8_if_ascii c.args.bytes.now _ refl (rw (take_all c.loop-at.at c.args.bytes.now (omega arith)) at c.loop-at.invariant.1)
