use Rattle.ansi_style.proofs.Common.{arith}
use Rattle.ansi_style.proofs.WordLemmas.{has-below_font}
use Rattle.ansi_style.proofs.state.attributes.Attributes.with_font.Goals as goal

-- the font's code is above the attributes
pub returns-clause-attributes : goal.returns-clause-attributes
returns-clause-attributes c = λ place within. has-below_font c.args.self.0 c.from.result place (omega arith) within
