use Rattle.std.proofs.Common.{arith}
use Rattle.std.proofs.lemmas.List.{take_rest}
use Rattle.ansi_safe.proofs.AsciiLemmas.{so_far-more, so_far-decides, so_far-end}
use Rattle.ansi_safe.proofs.utf8.is_utf8_by_16.Goals as goal

pub returns-then-not-begins_ascii_16 : goal.returns-then-not-begins_ascii_16
returns-then-not-begins_ascii_16 c = so_far-decides c.args.bytes.now c.loop-rest.rest.now _ c.loop-rest.invariant c.is_rest_utf8.ensures

pub loop-rest-preserved : goal.loop-rest-preserved
loop-rest-preserved c =
    so_far-more 16 c.args.bytes.now c.loop-rest.rest.now _ c.loop-rest.invariant (omega arith) (c.begins_ascii_16.ensures c.if-not-begins_ascii_16.false) (take_rest c.loop-rest.rest.now 16)

pub returns-then-begins_ascii_16 : goal.returns-then-begins_ascii_16
returns-then-begins_ascii_16 c =
    let back = rw take_rest at (c.begins_ascii_16-2.ensures c.if-begins_ascii_16.true) in
    so_far-end 16 c.args.bytes.now c.loop-rest.rest.now _ c.loop-rest.invariant (omega arith) (omega arith) c.if-begins_ascii_16.true back

pub returns-else-begins_ascii_16 : goal.returns-else-begins_ascii_16
returns-else-begins_ascii_16 c = so_far-decides c.args.bytes.now c.loop-rest.rest.now _ c.loop-rest.invariant c.is_short_utf8.ensures
