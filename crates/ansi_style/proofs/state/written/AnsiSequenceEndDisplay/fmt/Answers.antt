use Rattle.ansi_style.proofs.WritingLemmas.{wrote_through}
use Rattle.ansi_style.proofs.state.written.AnsiSequenceEndDisplay.fmt.Goals as goal

-- what is printed is the close of a style that has something to end
pub returns-clause-writes : goal.returns-clause-writes
returns-clause-writes g c = λ plain ok.
    rw (← c.self.view_is, ← c.has_any.ensures, c.if-not-has_any.false) (wrote_through g.W.Write.write_str_gives _ _ _ (c.write_close.ensures.wrote ok) plain)
