use Rattle.std.proofs.Common.{arith}
use Rattle.std.proofs.lemmas.List.{take_rest}
use Rattle.ansi_safe.proofs.AsciiLemmas.{utf8_before_ascii}
use Rattle.ansi_safe.proofs.utf8.before_ascii_16.Goals as goal

pub loop-end-preserved : goal.loop-end-preserved
loop-end-preserved c =
    let last = rw take_rest at (c.begins_ascii_16.ensures c.if-begins_ascii_16.true) in
    (omega (arith, c.loop-end.invariant.0), utf8_before_ascii 16 c.loop-end.end c.args.bytes.now (omega arith) c.loop-end.invariant.1 last)
