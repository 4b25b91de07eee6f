use Rattle.std.proofs.Common.{length, ◌&&◌, ◌==◌, [], ◌∷◌}
use Rattle.std.proofs.lemmas.Bool.{and_parts, eqb-true}
use Rattle.std.proofs.lemmas.List.{nil_from_length}
use Rattle.ansi_items.specs.Plain.{plain}
use Rattle.ansi_restyle.specs.Ranges.{are_in_turn}
use Rattle.ansi_restyle.specs.Replaced.{replaced}
use Rattle.ansi_text_calls.specs.Answers.{refused}
use Rattle.ansi_text_calls.specs.Restyles.{GivesReplaced}
use Rattle.ansi_text_calls.proofs.MadeLemmas.{Gives-if, no_memory}
use Rattle.ansi_text_calls.proofs.restyles.replace_text.Goals as goal

-- an empty text in place of an empty range is no change
pub returns : goal.returns
unfolding GivesReplaced
returns g c =
    let t = c.args.text.now in
    let w = c.args.with.now in
    let a = c.args.start in
    let b = c.args.end in
    let good = are_in_turn (plain t) 0 ((a, b) ∷ []) in
    let same = a == b && length w == 0 in
    Gives-if refused _ good (replaced t a b w) c.replace_in.result _ _ _ c.replace_in.ensures.none c.replace_in.ensures.bytes
    (λ none. c.replace_in.ensures.takes_no_memory (no_memory good same (λ is. let parts = and_parts (a == b) (length w == 0) is in (eqb-true a b parts.0, nil_from_length w (eqb-true _ 0 parts.1))) none))
    c.write_found.ensures
