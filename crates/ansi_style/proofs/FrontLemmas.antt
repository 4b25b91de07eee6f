-- What a text begins with, it begins with after more is appended.
use Rattle.std.proofs.Math.Seq.{take-length}
use Rattle.std.proofs.lemmas.List.{take-append-le, length-take}
use Rattle.std.proofs.lemmas.Str.{IsCharBoundary-from_take, IsUtf8-string_bytes}
use Rattle.std.specs.Str.{IsUtf8, IsCharBoundary}
use Rattle.std.specs.Prelude.{Bool, true, false, String, string_bytes, string_len}
use Rattle.ansi_style.specs.Writing.{BeginsWith}
use Rattle.ansi_style.proofs.Common.{◌≡◌, ◌≤◌, ◌++◌, List, ℕ, sym, ap, subst, ◌∙◌, arith, rules, length, take, if◌then◌else◌}

front_is_short : (text front : List ℕ) → BeginsWith text front → length front ≤ length text
front_is_short text front begins = omega (arith, ap length begins, length-take (length front) text)

begins_appended : (text more front : List ℕ) → BeginsWith text front → BeginsWith (text ++ more) front
begins_appended text more front begins = take-append-le (length front) text more (front_is_short text front begins) ∙ begins

-- so it does after the same is there, and after a push, which appends or leaves the text as it was
pub begins_same : (old new front : List ℕ) → new ≡ old → BeginsWith old front → BeginsWith new front
begins_same old new front is begins = subst (λ t. BeginsWith t front) (sym is) begins

pub begins_more : (old more new front : List ℕ) → new ≡ old ++ more → BeginsWith old front → BeginsWith new front
begins_more old more new front is begins = subst (λ t. BeginsWith t front) (sym is) (begins_appended old more front begins)

pub begins_pushed : (old more new front : List ℕ) (ok : Bool) → new ≡ (if ok then old ++ more else old) → BeginsWith old front → BeginsWith new front
begins_pushed old more new front true is begins = begins_more old more new front is begins
begins_pushed old more new front false is begins = begins_same old new front is begins

pub ruleset keeps = (begins_same, begins_more, begins_pushed)

pub begins_itself : (text : List ℕ) → BeginsWith text text
begins_itself text = take-length text

-- what was there ends where a character begins, and is what is left if all after it is taken back
module _ {A : Type 0} (old new : String A) (len : ℕ) (is : len ≡ string_len old) (kept : (front : List ℕ) → BeginsWith (string_bytes old) front → BeginsWith (string_bytes new) front) where
  len_is : len ≡ length (string_bytes old)
  len_is = is ∙ search rules

  begins : BeginsWith (string_bytes new) (string_bytes old)
  begins = kept (string_bytes old) (begins_itself (string_bytes old))

  pub front_boundary : IsCharBoundary (string_bytes new) len
  front_boundary =
      subst (IsCharBoundary (string_bytes new)) (sym len_is)
      (IsCharBoundary-from_take (string_bytes new) (length (string_bytes old)) (IsUtf8-string_bytes new) (front_is_short (string_bytes new) (string_bytes old) begins)
      (subst IsUtf8 (sym begins) (IsUtf8-string_bytes old)))

  pub front_left : take len (string_bytes new) ≡ string_bytes old
  front_left = ap (λ n. take n (string_bytes new)) len_is ∙ begins
