use Rattle.ansi_style.proofs.Common.{append-nil}
use Rattle.ansi_style.proofs.state.written.write_font.Goals as goal

-- the number of the font is written
pub returns-in-Some-clause-wrote : goal.returns-in-Some-clause-wrote
returns-in-Some-clause-wrote g c = λ ok. rw (c.in-Some.is, append-nil _) (c.write_code.ensures.wrote ok)
