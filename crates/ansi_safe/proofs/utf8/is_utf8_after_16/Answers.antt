use Rattle.std.proofs.lemmas.List.{take_rest}
use Rattle.ansi_safe.proofs.AsciiLemmas.{utf8_by_rest}
use Rattle.ansi_safe.proofs.utf8.is_utf8_after_16.Goals as goal

pub returns-then-begins_ascii_16 : goal.returns-then-begins_ascii_16
returns-then-begins_ascii_16 c = utf8_by_rest 16 c.args.bytes.now _ (c.begins_ascii_16.ensures c.if-begins_ascii_16.true) (rw take_rest at c.is_short_utf8.ensures)
