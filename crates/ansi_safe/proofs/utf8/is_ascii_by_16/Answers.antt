use Rattle.std.proofs.Common.{◌-◌, length, arith}
use Rattle.std.proofs.lemmas.List.{take_rest}
use Rattle.ansi_safe.proofs.AsciiLemmas.{so_far-more, ascii_covered}
use Rattle.ansi_safe.proofs.utf8.is_ascii_by_16.Goals as goal

pub loop-rest-preserved : goal.loop-rest-preserved
loop-rest-preserved c =
    so_far-more 16 c.args.bytes.now c.loop-rest.rest.now _ c.loop-rest.invariant (omega arith) (c.begins_ascii_16.ensures c.if-not-begins_ascii_16.false) (take_rest c.loop-rest.rest.now 16)

pub returns : goal.returns
returns c = λ is.
    let bs = c.args.bytes.now in
    let back = rw take_rest at (c.begins_ascii_16-2.ensures is) in
    let rest = c.loop-rest.rest.now in
    ascii_covered (length bs - length rest) (length bs - 16) 16 bs c.loop-rest.invariant.front back (omega arith) (omega arith)
