use Rattle.std.proofs.Common.{◌==◌, length}
use Rattle.std.proofs.lemmas.Bool.{eqb-true}
use Rattle.std.proofs.lemmas.List.{nil_from_length}
use Rattle.ansi_items.specs.Plain.{plain}
use Rattle.ansi_restyle.specs.Matches.{matches}
use Rattle.ansi_restyle.specs.ReplacedAll.{replaced_all}
use Rattle.ansi_text_calls.specs.Answers.{no}
use Rattle.ansi_text_calls.specs.Restyles.{GivesReplacedAll}
use Rattle.ansi_text_calls.proofs.Utf8Lemmas.{Gives-text}
use Rattle.ansi_text_calls.proofs.restyles.replace_all_text.Goals as goal

-- if nothing matches, nothing is allocated
pub returns : goal.returns
unfolding GivesReplacedAll
returns g c =
    let t = c.args.text.now in
    let p = c.args.pat.now in
    let ms = matches (plain t) p in
    let made = c.replace_all_in in
    Gives-text no (length ms == 0) (replaced_all t p c.args.with.now) made.result _ _ _ made.ensures.bytes (λ none. made.ensures.takes_no_memory (nil_from_length ms (eqb-true (length ms) 0 none))) c.write_text.ensures
