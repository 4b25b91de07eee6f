use Rattle.std.proofs.lemmas.List.{take_rest}
use Rattle.ansi_safe.proofs.AsciiLemmas.{utf8_by_rest}
use Rattle.ansi_safe.proofs.utf8.is_utf8_after_8.Goals as goal

pub returns-then-begins_ascii_8 : goal.returns-then-begins_ascii_8
returns-then-begins_ascii_8 c = utf8_by_rest 8 c.args.bytes.now _ (c.begins_ascii_8.ensures c.if-begins_ascii_8.true) (rw take_rest at c.is_short_utf8.ensures)
