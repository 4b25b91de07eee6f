-- What the program's words mean.
use Rattle.std.specs.Prelude.{◌&&◌, ◌==◌, ◌+◌, ◌^◌, ℕ, Bool, List, [], ◌∷◌, Option, None, Some, codes, length, take, drop, is_some, nat_lt, if◌then◌else◌}
use Rattle.std.specs.Option.{option_map, option_and_then}
use Rattle.std.specs.List.{position, list_all, filter_map}
use Rattle.std.specs.Str.{byte, bytes_eq, all_ascii_digits}
use Rattle.std.specs.Str.Parse.{digits_value}
use Rattle.ansi_str.specs.Changes.{Change, CutRange, LeftOf, RightOf, PartOf, WithoutPrefix, WithoutSuffix, Trimmed}

-- the words ask for the plain text of each line, or for changes of it in turn
pub data Work : Type 0 where
  Stripped : Work
  Changed : List Change → Work

-- a colon ends a word's name, and separates its fields
abbrev pub is_colon : ℕ → Bool
is_colon b = b == byte ":"

-- the text before and after the first colon, if there is one
abbrev pub at_colon : List ℕ → Option (List ℕ × List ℕ)
at_colon text = option_map (λ i. (take i text, drop (i + 1) text)) (position is_colon text)

-- a field is a number if it is one or more digits, leading zeros allowed, and its value fits usize
abbrev pub field_number : List ℕ → Option ℕ
field_number field =
    if nat_lt 0 (length field) && (all_ascii_digits field && nat_lt (digits_value 10 field) (2 ^ 64))
    then Some (digits_value 10 field) else None

-- an end is a number, or empty for no end
abbrev pub end_of : List ℕ → Option (Option ℕ)
end_of [] = Some None
end_of (digit ∷ more) = option_map Some (field_number (digit ∷ more))

-- a cut has a start and an end, with a colon between them
abbrev pub cut_of : List ℕ → Option Change
cut_of fields = option_and_then (λ (f : List ℕ × List ℕ). option_and_then (λ start. option_map (CutRange start) (end_of f.1)) (field_number f.0)) (at_colon fields)

-- a part has an index and, after a colon, any pattern
abbrev pub part_of : List ℕ → Option Change
part_of fields = option_and_then (λ (f : List ℕ × List ℕ). option_map (PartOf f.1) (field_number f.0)) (at_colon fields)

-- what a name asks for, with the field after its colon
abbrev pub change_named : List ℕ → List ℕ → Option Change
change_named name field =
    if bytes_eq name (codes "cut") then cut_of field
    else if bytes_eq name (codes "left") then option_map LeftOf (field_number field)
    else if bytes_eq name (codes "right") then option_map RightOf (field_number field)
    else if bytes_eq name (codes "part") then part_of field
    else if bytes_eq name (codes "prefix") then Some (WithoutPrefix field)
    else if bytes_eq name (codes "suffix") then Some (WithoutSuffix field)
    else None

-- `trim` asks for a change by itself, and any other word by its name, a colon and a field
abbrev pub change_asked : List ℕ → Option Change
change_asked word =
    if bytes_eq word (codes "trim") then Some Trimmed
    else option_and_then (λ (f : List ℕ × List ℕ). change_named f.0 f.1) (at_colon word)

-- words ask for changes in turn if each of them asks for one
unfoldable pub changes_asked : List (List ℕ) → Option (List Change)
changes_asked words =
    if list_all (λ word. is_some (change_asked word)) words then Some (filter_map change_asked words) else None

-- `strip` alone asks for plain text, one or more other words for changes, and no words for nothing
unfoldable pub work_asked : List (List ℕ) → Option Work
work_asked [] = None
work_asked (word ∷ more) =
    if bytes_eq word (codes "strip") && length more == 0 then Some Stripped
    else option_map Changed (changes_asked (word ∷ more))
