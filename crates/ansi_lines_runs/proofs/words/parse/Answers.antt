use Rattle.std.proofs.Common.{sym, arith}
use Rattle.ansi_lines_runs.proofs.WordLemmas.{work_asked-strip}
use Rattle.ansi_lines_runs.proofs.words.parse.Goals as goal

-- `strip` is the only word
pub returns-in-len1 : goal.returns-in-len1
returns-in-len1 g c =
    sym (work_asked-strip c.args.words.now c.word-item.result (omega (arith, c.in-len1.len_at_least, c.in-len1.len_below)) c.word-item.is
    (rw c.as_str.ensures.value at (sym c.if-eq.ensures)))
