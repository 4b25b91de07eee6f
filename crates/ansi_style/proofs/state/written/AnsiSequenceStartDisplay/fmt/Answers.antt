use Rattle.ansi_style.proofs.WritingLemmas.{wrote_through}
use Rattle.ansi_style.proofs.state.written.AnsiSequenceStartDisplay.fmt.Goals as goal

-- what is printed is the start of the style
pub returns-clause-writes : goal.returns-clause-writes
returns-clause-writes g c = λ plain ok. rw (← c.self.view_is) (wrote_through g.W.Write.write_str_gives _ _ _ (c.write_start.ensures.wrote ok) plain)
