use Rattle.std.proofs.Common.{inl, refl, sym, ◌∙◌}
use Rattle.ansi_text_calls.specs.Replacements.{new_texts}
use Rattle.ansi_text_calls.proofs.Utf8Lemmas.{OnUtf8-all, OnUtf8-not}
use Rattle.ansi_text_calls.proofs.replacements.replace_each.Goals as goal

-- a new text isn't UTF-8
pub returns-then-not-are_texts_utf8 : goal.returns-then-not-are_texts_utf8
returns-then-not-are_texts_utf8 g c =
    let not_all = sym c.are_texts_utf8.ensures ∙ c.if-not-are_texts_utf8.true in
    inl (c.in-Ok.ensures.1, OnUtf8-not (new_texts c.args.entries.now) _ _ not_all (c.failed-then-not-are_texts_utf8.ensures, refl))

-- all are
pub returns : goal.returns
returns g c =
    let all = sym c.are_texts_utf8.ensures ∙ c.if-not-are_texts_utf8.false in
    inl (c.in-Ok.ensures.1, OnUtf8-all (new_texts c.args.entries.now) _ _ all (rw c.in-Ok.ensures.0 at c.replace_each_text.ensures))
