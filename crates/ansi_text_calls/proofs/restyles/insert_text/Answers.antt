use Rattle.std.proofs.Common.{length, ◌==◌}
use Rattle.std.proofs.lemmas.Bool.{eqb-true}
use Rattle.std.proofs.lemmas.List.{nil_from_length}
use Rattle.ansi_items.specs.Plain.{plain}
use Rattle.ansi_search.specs.Positions.{is_char_boundary}
use Rattle.ansi_restyle.specs.Replaced.{replaced}
use Rattle.ansi_text_calls.specs.Answers.{refused}
use Rattle.ansi_text_calls.specs.Restyles.{GivesInserted}
use Rattle.ansi_text_calls.proofs.MadeLemmas.{Gives-if, no_memory}
use Rattle.ansi_text_calls.proofs.restyles.insert_text.Goals as goal

-- an empty text is no change
pub returns : goal.returns
unfolding GivesInserted
returns g c =
    let t = c.args.text.now in
    let w = c.args.with.now in
    let at = c.args.position in
    let good = is_char_boundary (plain t) at in
    Gives-if refused _ good (replaced t at at w) c.insert_in.result _ _ _ c.insert_in.ensures.none c.insert_in.ensures.bytes
    (λ none. c.insert_in.ensures.takes_no_memory (no_memory good (length w == 0) (λ is. nil_from_length w (eqb-true _ 0 is)) none))
    c.write_found.ensures
