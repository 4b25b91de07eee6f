use Rattle.std.proofs.Common.{inl, refl, sym, ◌∙◌}
use Rattle.ansi_calls.specs.ColumnSteps.{tails_of}
use Rattle.ansi_text_calls.proofs.Utf8Lemmas.{OnUtf8-all, OnUtf8-not}
use Rattle.ansi_calls.proofs.column_edits.edit_columns.Goals as goal

-- a tail isn't UTF-8
pub returns-then-not-are_tails_utf8 : goal.returns-then-not-are_tails_utf8
returns-then-not-are_tails_utf8 g c =
    let not_all = sym c.are_tails_utf8.ensures ∙ c.if-not-are_tails_utf8.true in
    inl (c.in-Ok.ensures.1, OnUtf8-not (tails_of c.args.steps.now) _ _ not_all (c.failed-then-not-are_tails_utf8.ensures, refl))

-- all are, so that what the steps make is written
pub returns : goal.returns
returns g c =
    let all = sym c.are_tails_utf8.ensures ∙ c.if-not-are_tails_utf8.false in
    inl (c.in-Ok.ensures.1, OnUtf8-all (tails_of c.args.steps.now) _ _ all (rw c.in-Ok.ensures.0 at c.edit_text.ensures))
