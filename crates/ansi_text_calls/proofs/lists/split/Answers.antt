use Rattle.std.proofs.Common.{◌≡◌, ◌∙◌, List, ℕ, true, inl, sym, subst}
use Rattle.ansi_str.specs.Plain.{has_escape}
use Rattle.ansi_str.specs.Parts.{all_parts}
use Rattle.ansi_text_calls.specs.Lists.{ends_from, GivesAll}
use Rattle.ansi_text_calls.proofs.GivenLemmas.{joined_texts}
use Rattle.ansi_text_calls.proofs.lists.split.Goals as goal

-- the parts of a text without ESC are written where they belong
pub returns-then-not-ansi_has_any : goal.returns-then-not-ansi_has_any
returns-then-not-ansi_has_any g c =
    inl (c.in-Ok.ensures.1, inl (c.in-Ok-from_utf8.ensures.1, inl (rw (c.in-Ok.ensures.0, c.in-Ok-from_utf8.ensures.0) at c.write_bare_parts.ensures)))

-- those of a short one, or the call runs out of memory
pub returns-in-Some : goal.returns-in-Some
returns-in-Some g c =
    let some : has_escape c.in-Ok.text.now ≡ true = sym c.ansi_has_any.ensures ∙ c.if-not-ansi_has_any.false in
    let parts = all_parts c.in-Ok.text.now c.in-Ok-from_utf8.pat.now in
    let gives : GivesAll (has_escape c.in-Ok.text.now) (joined_texts parts) (ends_from 0 parts) c.in-Some.answer c.args.buffer.now c.write_few_parts.new.buffer c.args.ends.now c.write_few_parts.new.ends
    = rw some c.in-Some.ensures.written in
    inl (c.in-Ok.ensures.1, inl (c.in-Ok-from_utf8.ensures.1, rw (c.in-Ok.ensures.0, c.in-Ok-from_utf8.ensures.0) at gives))

-- and those of any other text, or the call runs out of memory
pub returns : goal.returns
returns g c =
    let some : has_escape c.in-Ok.text.now ≡ true = sym c.ansi_has_any.ensures ∙ c.if-not-ansi_has_any.false in
    let gives = subst (λ (ts : List (List ℕ)). GivesAll (has_escape c.in-Ok.text.now) (joined_texts ts) (ends_from 0 ts) c.write_texts.result c.args.buffer.now c.write_texts.new.buffer c.args.ends.now c.write_texts.new.ends)
    c.split_in.ensures.bytes (rw some (rw (c.in_default-write_few_parts.ensures.none.0, c.in_default-write_few_parts.ensures.none.1) at c.write_texts.ensures)) in
    inl (c.in-Ok.ensures.1, inl (c.in-Ok-from_utf8.ensures.1, rw (c.in-Ok.ensures.0, c.in-Ok-from_utf8.ensures.0) at gives))
