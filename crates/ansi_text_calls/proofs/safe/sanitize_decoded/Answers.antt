use Rattle.std.proofs.Common.{◌≡◌, ◌∙◌, Bool, true, false, ℕ, List, Some, inl, inr, subst, refl}
use Rattle.std.specs.Prelude.{IsUtf8}
use Rattle.std.specs.Str.{is_utf8}
use Rattle.std.specs.Str.Lossy.{utf8_lossy}
use Rattle.std.proofs.lemmas.Str.{IsUtf8-from_is_utf8, is_utf8-from_IsUtf8, utf8_lossy-IsUtf8}
use Rattle.ansi_safe.specs.declared.policy.Policy.{Policy}
use Rattle.ansi_text_calls.specs.declared.answers.Answer.{Answer}
use Rattle.ansi_text_calls.specs.Safe.{GivesSanitized, GivesSanitizedBytes}
use Rattle.ansi_text_calls.proofs.safe.sanitize_decoded.Goals as goal

-- bytes that are UTF-8 are their own text
of-text : (bytes : List ℕ) (policy : Policy) (answer : Answer) (old new : List ℕ) → IsUtf8 bytes → GivesSanitized bytes (Some policy) answer old new
    → GivesSanitizedBytes bytes (Some policy) answer old new
unfolding GivesSanitized GivesSanitizedBytes
of-text bytes policy answer old new utf8 given = rw (is_utf8-from_IsUtf8 bytes utf8) (rw (utf8_lossy-IsUtf8 bytes utf8) given)

isn't-utf8 : (bytes : List ℕ) → ¬ (IsUtf8 bytes) → (is : Bool) → is_utf8 bytes ≡ is → is ≡ false
isn't-utf8 bytes none true told = absurd (none (IsUtf8-from_is_utf8 bytes told))
isn't-utf8 bytes none false told = refl

-- any other bytes take memory for theirs
of-lossy : (bytes : List ℕ) (policy : Policy) (answer : Answer) (old new : List ℕ) → ¬ (IsUtf8 bytes)
    → GivesSanitized (utf8_lossy bytes) (Some policy) answer old new → GivesSanitizedBytes bytes (Some policy) answer old new
unfolding GivesSanitized GivesSanitizedBytes
of-lossy bytes policy answer old new none given = rw (isn't-utf8 bytes none _ refl) (elim given [
  | inl written ↦ inl written
  | inr failed ↦ inr (refl, failed.1)
])

pub returns-in-Ok : goal.returns-in-Ok
returns-in-Ok g c =
    let text = c.in-Ok.ensures in
    of-text c.args.bytes.now c.args.policy _ _ _ text.1
    (subst (λ t. GivesSanitized t (Some c.args.policy) c.sanitize_text.result c.args.buffer.now c.sanitize_text.new.buffer) text.0 c.sanitize_text.ensures)

pub returns-in-Ok-from_utf8_lossy : goal.returns-in-Ok-from_utf8_lossy
returns-in-Ok-from_utf8_lossy g c =
    let made = c.sanitize_text-in-Ok-from_utf8_lossy in
    of-lossy c.args.bytes.now c.args.policy _ _ _ c.in_default.ensures
    (subst (λ t. GivesSanitized t (Some c.args.policy) made.result c.args.buffer.now made.new.buffer) (c.as_str.ensures.value ∙ c.in-Ok-from_utf8_lossy.ensures.lossy) made.ensures)

pub returns-in-Err : goal.returns-in-Err
unfolding GivesSanitizedBytes
returns-in-Err g c = rw (isn't-utf8 c.args.bytes.now c.in_default.ensures _ refl) (inr (refl, (c.failed.ensures, refl)))
