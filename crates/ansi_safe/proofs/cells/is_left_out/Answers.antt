use Rattle.std.proofs.Common.{sym, ◌∙◌}
use Rattle.ansi_safe.proofs.EmptyLemmas.{empty-run}
use Rattle.ansi_safe.proofs.cells.is_left_out.Goals as goal

pub returns-in-Text : goal.returns-in-Text
returns-in-Text c = rw c.in-Text.is (c.is_run_left_out.ensures ∙ sym (empty-run c.args.piece.now))
