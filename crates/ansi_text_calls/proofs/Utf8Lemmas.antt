-- The effect of a call, by the UTF-8 check of each of its texts.
use Rattle.std.proofs.Common.{◌≡◌, ◌∙◌, Bool, true, false, not, ◌&&◌, ℕ, List, [], ◌∷◌, Option, Some, Result, Ok, Err, IsTrue, inl, inr, sym, refl, subst}
use Rattle.std.specs.Prelude.{IsOk, IfOk, IsFalse, option_map, MatchResult}
use Rattle.std.specs.Cow.{cow_str_bytes}
use Rattle.std.specs.declared.borrow.CowStr.{CowStr}
use Rattle.std.proofs.lemmas.Bool.{true≢false}
use Rattle.std.proofs.lemmas.Str.{IsUtf8-from_is_utf8, is_utf8-from_IsUtf8}
use Rattle.std.specs.List.{list_all}
use Rattle.std.specs.Str.{is_utf8}
use Rattle.ansi_text_calls.specs.declared.answers.Answer.{Answer}
use Rattle.ansi_text_calls.specs.Answers.{out_of_memory, OnUtf8, HasFailed, IsFound, IsWritten, Gives}

both-left : (a b : Bool) → (a && b) ≡ true → a ≡ true
both-left true b both = refl
both-left false b both = both

both-right : (a b : Bool) → (a && b) ≡ true → b ≡ true
both-right true b both = both
both-right false b both = cc

-- all texts are UTF-8
pub OnUtf8-all : (ts : List (List ℕ)) (Done Failed : Type 0) → list_all is_utf8 ts ≡ true → Done → OnUtf8 ts Done Failed
OnUtf8-all [] Done Failed all done = done
OnUtf8-all (t ∷ ts) Done Failed all done = inl (IsUtf8-from_is_utf8 t (both-left (is_utf8 t) (list_all is_utf8 ts) all), OnUtf8-all ts Done Failed (both-right (is_utf8 t) (list_all is_utf8 ts) all) done)

not-first : (t : List ℕ) (ts : List (List ℕ)) (Done Failed : Type 0) (is : Bool) → is_utf8 t ≡ is → (is && list_all is_utf8 ts) ≡ false → Failed
    → (list_all is_utf8 ts ≡ false → OnUtf8 ts Done Failed) → OnUtf8 (t ∷ ts) Done Failed
not-first t ts Done Failed true told not_all failed others = inl (IsUtf8-from_is_utf8 t told, others not_all)
not-first t ts Done Failed false told not_all failed others = inr ((λ utf8. true≢false (sym (is_utf8-from_IsUtf8 t utf8) ∙ told)), failed)

-- a text isn't UTF-8
pub OnUtf8-not : (ts : List (List ℕ)) (Done Failed : Type 0) → list_all is_utf8 ts ≡ false → Failed → OnUtf8 ts Done Failed
OnUtf8-not [] Done Failed not_all failed = cc
OnUtf8-not (t ∷ ts) Done Failed not_all failed = not-first t ts Done Failed (is_utf8 t) refl not_all failed (λ others. OnUtf8-not ts Done Failed others failed)

-- the result of a call is written or refused, and the call runs out of memory only if it allocates
pub Gives-found : {A E : Type 0} (absent : ℕ) (stays : Bool) (found : Option (List ℕ)) (gave : Result (Option (CowStr A)) E) (answer : Answer) (old new : List ℕ)
    → IfOk gave (λ o. option_map cow_str_bytes o ≡ found) → (IsTrue stays → IsOk gave)
    → MatchResult gave (λ o. IsFound absent (option_map cow_str_bytes o) answer old new) (λ e. HasFailed out_of_memory answer old new)
    → Gives absent (not stays) found answer old new
Gives-found absent stays found (Ok o) answer old new is fits told = inl (subst (λ found. IsFound absent found answer old new) is told)
Gives-found absent true found (Err e) answer old new is fits told = absurd (true≢false (sym (fits refl)))
Gives-found absent false found (Err e) answer old new is fits told = inr (refl, told)

-- the text that a call makes is written, and the call runs out of memory only if it allocates
pub Gives-text : {A E : Type 0} (absent : ℕ) (stays : Bool) (text : List ℕ) (gave : Result (CowStr A) E) (answer : Answer) (old new : List ℕ)
    → IfOk gave (λ c. cow_str_bytes c ≡ text) → (IsTrue stays → IsOk gave)
    → MatchResult gave (λ c. IsWritten (cow_str_bytes c) answer old new) (λ e. HasFailed out_of_memory answer old new)
    → Gives absent (not stays) (Some text) answer old new
Gives-text absent stays text (Ok c) answer old new is fits told = inl (subst (λ text. IsWritten text answer old new) is told)
Gives-text absent true text (Err e) answer old new is fits told = absurd (true≢false (sym (fits refl)))
Gives-text absent false text (Err e) answer old new is fits told = inr (refl, told)

-- the same, by what makes it allocate
pub Gives-made : {A E : Type 0} (absent : ℕ) (makes : Bool) (text : List ℕ) (gave : Result (CowStr A) E) (answer : Answer) (old new : List ℕ)
    → IfOk gave (λ c. cow_str_bytes c ≡ text) → (IsFalse makes → IsOk gave)
    → MatchResult gave (λ c. IsWritten (cow_str_bytes c) answer old new) (λ e. HasFailed out_of_memory answer old new)
    → Gives absent makes (Some text) answer old new
Gives-made absent makes text (Ok c) answer old new is fits told = inl (subst (λ text. IsWritten text answer old new) is told)
Gives-made absent true text (Err e) answer old new is fits told = inr (refl, told)
Gives-made absent false text (Err e) answer old new is fits told = absurd (true≢false (sym (fits refl)))
