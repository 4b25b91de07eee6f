use Rattle.std.proofs.Common.{◌-◌, length, arith}
use Rattle.std.proofs.lemmas.List.{take_rest}
use Rattle.ansi_safe.proofs.AsciiLemmas.{ascii_covered}
use Rattle.ansi_safe.proofs.utf8.is_ascii.Goals as goal

pub returns-then-begins_ascii_8 : goal.returns-then-begins_ascii_8
returns-then-begins_ascii_8 c = λ is.
    let bs = c.args.bytes.now in
    let back = rw take_rest at (c.begins_ascii_8-then-begins_ascii_8.ensures is) in
    ascii_covered 8 (length bs - 8) 8 bs (c.begins_ascii_8.ensures c.if-begins_ascii_8.true) back (omega arith) (omega arith)
