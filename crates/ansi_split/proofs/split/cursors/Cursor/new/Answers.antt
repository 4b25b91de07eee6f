use Rattle.std.proofs.Common.{arith}
use Rattle.ansi_split.proofs.SpanLemmas.{skip_at_front}
use Rattle.ansi_split.proofs.split.cursors.Cursor.new.Goals as goal

-- no plain bytes are left out
pub invariant_of-result : goal.invariant_of-result
invariant_of-result c = record { skip_ends = rw c.new.ensures (skip_at_front c.args.text.now c.utf8.text); skip_before = omega arith }
