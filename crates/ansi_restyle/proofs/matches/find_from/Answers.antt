use Rattle.ansi_items.specs.Plain.{plain}
use Rattle.ansi_items.proofs.Utf8Lemmas.{IsUtf8-plain}
use Rattle.ansi_restyle.proofs.MatchLemmas.{match_good_range}
use Rattle.ansi_restyle.proofs.matches.find_from.Goals as goal

pub returns-clause-good : goal.returns-clause-good
returns-clause-good c =
    match_good_range (plain c.args.text.now) c.args.pat.now c.args.position c.find_from.result (IsUtf8-plain c.args.text.now c.utf8.text) c.utf8.pat c.find_from.ensures
