-- Lists of edits in turn: the texts that they make, what they name of styled bytes, and when they leave a borrow.
use Rattle.std.specs.Prelude.{◌≡◌, IfSome, IsTrue, ℕ, Bool, true, false, not, ◌&&◌, ◌||◌, List, [], ◌∷◌, Option, Some, None, option_map, option_and_then, unwrap_or, is_some, if◌then◌else◌}
use Rattle.std.specs.List.{list_any}
use Rattle.std.specs.Option.{option_map_or}
use Rattle.ansi_items.specs.Plain.{plain, has_escape, is_whole}
use Rattle.ansi_style.specs.Rendition.{plain_style}
use Rattle.ansi_style.specs.Styled.{StyledByte, styled, residue}
use Rattle.ansi_slice.specs.Cut.{cut}
use Rattle.ansi_slice.specs.Sides.{left_side, right_side}
use Rattle.ansi_split.specs.Parts.{part, is_part_borrowed}
use Rattle.ansi_slice.specs.Kept.{without_prefix, without_suffix, trimmed}
use Rattle.ansi_str.specs.Changes.{Change, CutRange, LeftOf, RightOf, PartOf, WithoutPrefix, WithoutSuffix, Trimmed, interval_of, slice_of}

-- the meaning of changes in turn, each a slice of the result of the one before, or None if one is refused (own)
abbrev pub meaning : List Change → List StyledByte → Option (List StyledByte)
meaning [] bs = Some bs
meaning (e ∷ es) bs = option_and_then (meaning es) (slice_of e bs)

-- the text that a change makes of t, if it isn't refused
abbrev pub changed_text : Change → List ℕ → List ℕ
changed_text (CutRange s e) t = cut t s e
changed_text (LeftOf mid) t = left_side t mid
changed_text (RightOf mid) t = right_side t mid
changed_text (PartOf p k) t = unwrap_or (part t p k) []
changed_text (WithoutPrefix p) t = without_prefix t p
changed_text (WithoutSuffix p) t = without_suffix t p
changed_text Trimmed t = trimmed t

-- a change of t is refused if it keeps no interval of the plain text
abbrev pub edited_by : Change → List ℕ → Option (List ℕ)
edited_by e t = if is_some (interval_of e (plain t)) then Some (changed_text e t) else None

-- the text that changes in turn make, each of the result of the one before, or None if one is refused (own)
abbrev pub edited : List Change → List ℕ → Option (List ℕ)
edited [] t = Some t
edited (e ∷ es) t = option_and_then (edited es) (edited_by e t)

-- a cut, a side and a part leave no known style open
abbrev pub closes : Change → Bool
closes (CutRange s e) = true
closes (LeftOf mid) = true
closes (RightOf mid) = true
closes (PartOf p k) = true
closes (WithoutPrefix p) = false
closes (WithoutSuffix p) = false
closes Trimmed = false

-- the change of t is a borrow of it: t has no ESC, nothing is removed, or a part is a slice of it
abbrev pub gives_borrow : Change → List ℕ → Bool
gives_borrow (WithoutPrefix []) t = true
gives_borrow (WithoutSuffix []) t = true
gives_borrow (PartOf p k) t = not (has_escape t) || is_part_borrowed t p k
gives_borrow _ t = not (has_escape t)

-- changes in turn make borrows, up to the last or to the first that is refused
abbrev pub stay_borrowed : List Change → List ℕ → Bool
stay_borrowed [] t = true
stay_borrowed (e ∷ es) t = option_map_or (λ u. gives_borrow e t && stay_borrowed es u) (edited_by e t) true

-- the headline: the result is None exactly if the changes are refused, and else its styled bytes are the slice that the changes name; it is a whole text; and after a cut, a side or a part no known style is open at its end (own)
pub record IsSliceNamed (es : List Change) (t : List ℕ) (answer : Option (List ℕ)) : Type 0 where
  pub slice : meaning es (styled t) ≡ option_map styled answer
  pub whole : IfSome answer (λ u. IsTrue (is_whole u))
  pub closed : IfSome answer (λ u. IsTrue (list_any closes es) → residue u ≡ plain_style)
