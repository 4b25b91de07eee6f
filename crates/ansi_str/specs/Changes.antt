-- What an edit keeps of a plain text, and of styled bytes.
use Rattle.std.specs.Prelude.{ℕ, ◌-◌, List, length, nat_eq, Option, Some, None, option_map, unwrap_or, slice_get, slice_range, if◌then◌else◌}
use Rattle.std.specs.List.{starts_with, ends_with}
use Rattle.ansi_style.specs.Styled.{StyledByte, unstyled}
use Rattle.ansi_search.specs.Positions.{is_good_position, is_good_range}
use Rattle.ansi_slice.specs.Kept.{trim_interval}
use Rattle.ansi_split.specs.Parts.{parts}

-- a change is an edit as the definitions see it: a range that is cut, the side on the left or on the right of a position, the part of an index, what is left without a prefix or a suffix, or what is left without the white space at the ends
pub data Change : Type 0 where
  CutRange : ℕ → Option ℕ → Change
  LeftOf : ℕ → Change
  RightOf : ℕ → Change
  PartOf : List ℕ → ℕ → Change
  WithoutPrefix : List ℕ → Change
  WithoutSuffix : List ℕ → Change
  Trimmed : Change

-- the interval of the plain text x that a change keeps, or None if it is refused
abbrev pub interval_of : Change → List ℕ → Option (ℕ × ℕ)
interval_of (CutRange s e) x = if is_good_range x s e then Some (s, unwrap_or e (length x)) else None
interval_of (LeftOf mid) x = if is_good_position x mid then Some (0, mid) else None
interval_of (RightOf mid) x = if is_good_position x mid then Some (mid, length x) else None
interval_of (PartOf p k) x = slice_get (parts x p) k
interval_of (WithoutPrefix p) x = if starts_with nat_eq x p then Some (length p, length x) else None
interval_of (WithoutSuffix p) x = if ends_with nat_eq x p then Some (0, length x - length p) else None
interval_of Trimmed x = Some (trim_interval x)

-- the meaning of a change is a slice of styled bytes, by the interval that it keeps, or None if it is refused (own)
abbrev pub slice_of : Change → List StyledByte → Option (List StyledByte)
slice_of e bs = option_map (λ (i : ℕ × ℕ). slice_range bs i.0 i.1) (interval_of e (unstyled bs))
