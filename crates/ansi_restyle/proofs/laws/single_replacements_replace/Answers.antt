use Rattle.ansi_restyle.proofs.ReplaceLawLemmas.{one_replaced, plain-one_replaced, links-one_replaced}
use Rattle.ansi_restyle.proofs.laws.single_replacements_replace.Goals as goal

pub returns-clause-styled : goal.returns-clause-styled
returns-clause-styled c = one_replaced

pub returns-clause-plain : goal.returns-clause-plain
returns-clause-plain c = plain-one_replaced

pub returns-clause-links : goal.returns-clause-links
returns-clause-links c = links-one_replaced
