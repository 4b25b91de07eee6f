use Rattle.ansi_restyle.proofs.ReplaceLawLemmas.{inserted-removed}
use Rattle.ansi_restyle.proofs.laws.insertions_replace_what_was_removed.Goals as goal

pub returns : goal.returns
returns c = inserted-removed
