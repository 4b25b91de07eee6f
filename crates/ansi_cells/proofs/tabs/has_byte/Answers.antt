use Rattle.std.proofs.Common.{◌==◌, ◌∙◌, subst}
use Rattle.memchr.specs.Find.{IsFirstByte, is_byte}
use Rattle.ansi_cells.proofs.TabLemmas.{found_any}
use Rattle.ansi_cells.proofs.tabs.has_byte.Goals as goal

pub returns : goal.returns
returns c = c.is_some.ensures ∙ found_any (λ b. b == c.args.byte) c.args.run.now c.memchr.result (subst (λ u. IsFirstByte (is_byte c.args.byte) u c.memchr.result) c.as_bytes.ensures.value c.memchr.ensures)
