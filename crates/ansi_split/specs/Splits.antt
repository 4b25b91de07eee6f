-- The parts of a text as a split returns them, and what it returns of those that it has left.
use Rattle.std.specs.Prelude.{◌≡◌, ℕ, ◌+◌, ◌≤◌, List, [], ◌∷◌, ◌++◌, length, map, unwrap_or, Option, Some, None, Result, Ok, Err, IsTrue, IsFalse, ◌↔◌}
use Rattle.std.specs.List.{range_with_len}
use Rattle.std.specs.Cow.{cow_str_bytes, IsBorrowedStr}
use Rattle.std.specs.declared.borrow.CowStr.{CowStr}
use Rattle.ansi_style.specs.Writing.{BeginsWith}
use Rattle.ansi_style.specs.Written.{longest_start_and_close}
use Rattle.ansi_items.specs.Plain.{plain}
pub use Rattle.ansi_split.specs.Parts.{CarriedPart}
use Rattle.ansi_split.specs.Parts.{parts, part, source_len, is_part_borrowed}

-- the part of index k as a split returns it
abbrev pub split_part : List ℕ → List ℕ → ℕ → CarriedPart
split_part t p k = record { bytes = unwrap_or (part t p k) []; borrowed = is_part_borrowed t p k; source_len = source_len t p k }

-- all parts of t between the matches of p as a split returns them, in order
abbrev pub split_parts : List ℕ → List ℕ → List CarriedPart
split_parts t p = map (split_part t p) (range_with_len 0 (length (parts (plain t) p)))

-- the text is this part, and is at most this many bytes longer than its source
abbrev pub IsCarriedPart : {A : Type 0} → ℕ → CarriedPart → CowStr A → Type 0
IsCarriedPart most_added p c = (cow_str_bytes c ≡ p.bytes) × (IsBorrowedStr c ↔ IsTrue p.borrowed) × (length (cow_str_bytes c) ≤ p.source_len + most_added)

-- One call of `next` returns the first of the parts left. Or it returns an `Err`, never if that part is a borrow, and then no part is left. Or it returns None, if no part is left.
abbrev pub GivesCarriedPart : {A E : Type 0} → ℕ → List CarriedPart → Option (Result (CowStr A) E) → List CarriedPart → Type 0
GivesCarriedPart most_added old None new = (old ≡ []) × (new ≡ [])
GivesCarriedPart most_added old (Some (Ok c)) new = (p : CarriedPart) × (old ≡ p ∷ new) × IsCarriedPart most_added p c
GivesCarriedPart most_added old (Some (Err e)) new = (p : CarriedPart) × (ps : List CarriedPart) × (old ≡ p ∷ ps) × IsFalse p.borrowed × (new ≡ [])

-- so a split gives its parts, which have a start and a close beside their source
abbrev pub GivesPart : {A E : Type 0} → List CarriedPart → Option (Result (CowStr A) E) → List CarriedPart → Type 0
GivesPart old given new = GivesCarriedPart longest_start_and_close old given new

-- One call appends the first of the parts left to the text `out`. Or it runs out of memory, and then no part is left, and what `out` held stays; nothing is appended of a part that is a borrow. Or no part is left, and nothing is appended.
abbrev pub PushesPart : {E : Type 0} → List CarriedPart → Option (Result Unit E) → List CarriedPart → List ℕ → List ℕ → Type 0
PushesPart old None new out out_new = (old ≡ []) × (new ≡ []) × (out_new ≡ out)
PushesPart old (Some (Ok _)) new out out_new = (p : CarriedPart) × (old ≡ p ∷ new) × (out_new ≡ out ++ p.bytes)
PushesPart old (Some (Err e)) new out out_new = (p : CarriedPart) × (ps : List CarriedPart) × (old ≡ p ∷ ps) × (new ≡ []) × BeginsWith out_new out × (IsTrue p.borrowed → out_new ≡ out)
