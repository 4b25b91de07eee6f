use Rattle.ansi_restyle.proofs.ReplaceLawLemmas.{replaced-empty, plain-replaced-empty}
use Rattle.ansi_restyle.proofs.laws.empty_replacements_remove.Goals as goal

pub returns-clause-styled : goal.returns-clause-styled
returns-clause-styled c = replaced-empty

pub returns-clause-plain : goal.returns-clause-plain
returns-clause-plain c = plain-replaced-empty
