use Rattle.std.proofs.Common.{◌≡◌, ◌∙◌, ℕ, ◌<◌, ◌⊎◌, ◌++◌, length, drop, sym, refl, ap, ap₂, subst, inl, inr, arith}
use Rattle.std.specs.Prelude.{flat_map}
use Rattle.ansi_text_calls.specs.declared.lists.ListAnswer.{ListAnswer}
use Rattle.ansi_text_calls.specs.Answers.{ok, too_small}
use Rattle.ansi_text_calls.specs.Lists.{ends_from}
use Rattle.ansi_text_calls.proofs.ListLemmas.{length-ends_from}
use Rattle.ansi_text_calls.proofs.lists.write_copied.Goals as goal

-- there is no room for the texts, or for their ends
pub returns-in-Some : goal.returns-in-Some
returns-in-Some g c = λ texts copies fit.
    let size : length (ends_from 0 texts) ≡ length texts = length-ends_from 0 texts in
    let answer : ℕ → ℕ → ListAnswer = λ count len. record { status = too_small; count = count; len = len } in
    let needed = (rw c.in-Some.is at (c.count_without_room.ensures texts copies fit)).1 in
    inr (
      subst (λ k. (length c.args.buffer.now < length (flat_map (λ t. t) texts)) ⊎ (length c.args.ends.now < k)) (sym size) needed.0,
      ap₂ answer (needed.1 ∙ sym size) needed.2,
      refl,
      refl,
    )

-- there is room, so that what is copied is all of it
pub returns : goal.returns
returns g c = λ texts copies fit.
    let size : length (ends_from 0 texts) ≡ length texts = length-ends_from 0 texts in
    let answer : ℕ → ℕ → ListAnswer = λ count len. record { status = ok; count = count; len = len } in
    let room = (rw c.in_default.is at (c.count_without_room.ensures texts copies fit)).0 in
    let copied = copies _ _ _ _ _ c.copy-count.ensures in
    inl (
      room.0,
      omega (arith, size, room.1),
      ap₂ answer (copied.0 ∙ sym size) copied.1,
      copied.2 room.0,
      copied.3 room.1 ∙ ap (λ n. ends_from 0 texts ++ drop n c.args.ends.now) (sym size),
    )
