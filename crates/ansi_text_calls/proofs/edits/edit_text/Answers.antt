use Rattle.std.proofs.Common.{inl, map, refl, sym, ◌∙◌}
use Rattle.ansi_str.specs.Edited.{stay_borrowed}
use Rattle.ansi_text_calls.specs.Answers.{GivesEdited}
use Rattle.ansi_text_calls.specs.Steps.{change_of_step, patterns_of}
use Rattle.ansi_text_calls.proofs.Utf8Lemmas.{OnUtf8-all, OnUtf8-not, Gives-found}
use Rattle.ansi_text_calls.proofs.edits.edit_text.Goals as goal

-- a pattern isn't UTF-8
pub returns-then-not-are_patterns_utf8 : goal.returns-then-not-are_patterns_utf8
returns-then-not-are_patterns_utf8 g c =
    let not_all = sym c.are_patterns_utf8.ensures ∙ c.if-not-are_patterns_utf8.true in
    inl (c.in-Ok.ensures.1, OnUtf8-not (patterns_of c.args.steps.now) _ _ not_all (c.failed-then-not-are_patterns_utf8.ensures, refl))

-- all are, so that what the steps give is written
pub returns : goal.returns
unfolding GivesEdited
returns g c =
    let all = sym c.are_patterns_utf8.ensures ∙ c.if-not-are_patterns_utf8.false in
    let gives = Gives-found _ (stay_borrowed (map change_of_step c.args.steps.now) c.args.text.now) _ c.edit_in_turn.result _ _ _
    (rw c.in-Ok.ensures.0 at c.edit_in_turn.ensures.bytes) (rw c.in-Ok.ensures.0 at c.edit_in_turn.ensures.takes_no_memory) c.write_found.ensures in
    inl (c.in-Ok.ensures.1, OnUtf8-all (patterns_of c.args.steps.now) _ _ all gives)
