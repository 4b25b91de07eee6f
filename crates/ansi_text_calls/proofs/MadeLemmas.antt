-- A call that returns a text, or refuses to make it.
use Rattle.std.proofs.Common.{◌≡◌, ℕ, Bool, true, false, not, ◌&&◌, ◌⊎◌, ◌↔◌, List, Option, Some, None, Result, Ok, Err, refl, sym, ap, subst, inl, inr, if◌then◌else◌, IfOk, IfSome, IsOk, IsNone, IsFalse, IsTrue}
use Rattle.std.specs.Prelude.{option_map, MatchResult}
use Rattle.std.specs.Cow.{cow_str_bytes}
use Rattle.std.specs.declared.borrow.CowStr.{CowStr}
use Rattle.std.proofs.lemmas.Bool.{true≢false}
use Rattle.ansi_text_calls.specs.declared.answers.Answer.{Answer}
use Rattle.ansi_text_calls.specs.Answers.{out_of_memory, HasFailed, IsFound, Gives}

-- what is made, if this is good
made_or_none : {A : Type 0} (good : Bool) (made : List ℕ) (found : Option (CowStr A)) → (IsNone found ↔ IsFalse good) → IfSome found (λ c. cow_str_bytes c ≡ made)
    → option_map cow_str_bytes found ≡ (if good then Some made else None)
made_or_none true made None none bytes = absurd (true≢false (none.0 refl))
made_or_none false made None none bytes = refl
made_or_none true made (Some c) none bytes = ap Some bytes
made_or_none false made (Some c) none bytes = absurd (true≢false (none.1 refl))

-- it is written, or it is refused, or the call runs out of memory
pub Gives-if : {A E : Type 0} (absent : ℕ) (takes_memory good : Bool) (made : List ℕ) (found : Result (Option (CowStr A)) E) (answer : Answer) (old new : List ℕ)
    → IfOk found (λ o. IsNone o ↔ IsFalse good) → IfOk found (λ o. IfSome o (λ c. cow_str_bytes c ≡ made)) → (IsFalse takes_memory → IsOk found)
    → MatchResult found (λ o. IsFound absent (option_map cow_str_bytes o) answer old new) (λ e. HasFailed out_of_memory answer old new)
    → Gives absent takes_memory (if good then Some made else None) answer old new
Gives-if absent takes_memory good made (Ok o) answer old new none bytes free written =
    inl (subst (λ x. IsFound absent x answer old new) (made_or_none good made o none bytes) written)
Gives-if absent true good made (Err e) answer old new none bytes free written = inr (refl, written)
Gives-if absent false good made (Err e) answer old new none bytes free written = absurd (true≢false (sym (free refl)))

-- a call that allocates only if this is good, and the result another text
pub no_memory : {P : Type 0} (good same : Bool) → (IsTrue same → P) → IsFalse (good && not same) → P ⊎ IsFalse good
no_memory true true is none = inl (is refl)
no_memory true false is none = absurd (true≢false none)
no_memory false same is none = inr refl
