use Rattle.std.proofs.Common.{rules}
use Rattle.ansi_safe.proofs.links.terminator_len.Goals as goal

-- BEL is one byte
pub returns-then-ends_with : goal.returns-then-ends_with
returns-then-ends_with c = search rules
