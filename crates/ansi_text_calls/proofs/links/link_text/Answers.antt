use Rattle.std.proofs.Common.{◌&&◌, ◌==◌, [], ◌∷◌}
use Rattle.std.proofs.lemmas.Bool.{eqb-true}
use Rattle.ansi_items.specs.Plain.{plain}
use Rattle.ansi_restyle.specs.Links.{is_clean_address, with_link}
use Rattle.ansi_restyle.specs.Ranges.{are_in_turn}
use Rattle.ansi_text_calls.specs.Answers.{refused}
use Rattle.ansi_text_calls.specs.Links.{GivesLinked}
use Rattle.ansi_text_calls.proofs.MadeLemmas.{Gives-if, no_memory}
use Rattle.ansi_text_calls.proofs.links.link_text.Goals as goal

-- an empty range is no change
pub returns : goal.returns
unfolding GivesLinked
returns g c =
    let t = c.args.text.now in
    let address = c.args.address.now in
    let a = c.args.start in
    let b = c.args.end in
    let good = is_clean_address address && are_in_turn (plain t) 0 ((a, b) ∷ []) in
    Gives-if refused _ good (with_link t (a, b) address) c.link_in.result _ _ _ c.link_in.ensures.none c.link_in.ensures.bytes
    (λ none. c.link_in.ensures.takes_no_memory (no_memory good (a == b) (λ is. eqb-true a b is) none))
    c.write_found.ensures
