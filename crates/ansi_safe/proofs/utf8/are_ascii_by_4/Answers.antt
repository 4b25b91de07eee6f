use Rattle.std.proofs.Common.{arith}
use Rattle.std.proofs.lemmas.Bool.{and_parts}
use Rattle.std.proofs.lemmas.List.{take_rest}
use Rattle.ansi_safe.proofs.AsciiLemmas.{utf8_by_ends}
use Rattle.ansi_safe.proofs.utf8.are_ascii_by_4.Goals as goal

pub returns : goal.returns
returns c = λ ascii.
    let both = and_parts c.begins_ascii_4.result c.begins_ascii_4-2.result ascii in
    utf8_by_ends 4 c.args.bytes.now (omega arith) (omega arith) (c.begins_ascii_4.ensures both.0) (rw take_rest at (c.begins_ascii_4-2.ensures both.1))
