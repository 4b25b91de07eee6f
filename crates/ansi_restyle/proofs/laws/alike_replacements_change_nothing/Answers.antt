use Rattle.ansi_restyle.proofs.ReplaceLawLemmas.{replaced-alike}
use Rattle.ansi_restyle.proofs.laws.alike_replacements_change_nothing.Goals as goal

pub returns : goal.returns
returns c = replaced-alike
