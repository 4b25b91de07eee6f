use Rattle.std.proofs.Common.{◌≡◌, ◌<◌, ◌+◌, ◌-◌, ℕ, List, [], ◌∷◌, None, Some, length, drop, ap, subst, arith, slice_get, slice_index}
use Rattle.std.proofs.lemmas.List.{take_rest}
use Rattle.memchr.specs.Find.{IsFirst, Passes, is_byte}
use Rattle.ansi_restyle.proofs.UnmarkedLemmas.{no_first_byte, no_first_bytes}
use Rattle.ansi_restyle.proofs.unmarked.may_go_on.Goals as goal

slice_get-first_byte : (p : List ℕ) (b : ℕ) → Some b ≡ slice_get p 0 → (0 < length p) × (b ≡ slice_index p 0)
slice_get-first_byte [] b some = absurd (cc some)
slice_get-first_byte (a ∷ p) b some = (omega arith, cc some)

pub returns-in_default-memchr : goal.returns-in_default-memchr
returns-in_default-memchr c =
    let w = c.args.run.now in
    let p = c.args.pat.now in
    let start = c.saturating_sub.result in
    let tail = drop start c.as_bytes-bytes.result.now in
    let some : (0 < length p) × (c.in-Some.field-0.now ≡ slice_index p 0) = grind (arith, slice_get-first_byte) in
    let begins : start ≡ length w + 1 - length p = grind arith in
    let none : IsFirst (Passes (is_byte c.in-Some.field-0.now) tail) 0 (length tail) None
    = subst (λ u. IsFirst (Passes (is_byte c.in-Some.field-0.now) u) 0 (length u) None) (take_rest c.as_bytes-bytes.result.now start) (rw c.in_default-memchr.is at c.memchr.ensures) in
    λ _ y i inside match. no_first_byte w p tail c.in-Some.field-0.now start some.0 some.1 begins (ap (drop start) c.as_bytes-bytes.ensures.value) none y i inside match

pub returns-else-starts_with : goal.returns-else-starts_with
returns-else-starts_with c = grind (arith, no_first_bytes, slice_get-first_byte, take_rest)
