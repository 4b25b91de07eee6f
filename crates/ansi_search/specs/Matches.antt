-- Where a pattern occurs in a plain text.
use Rattle.std.specs.Prelude.{ℕ, ◌+◌, Bool, ◌&&◌, List, length, drop, filter, nat_eq, nat_le, Option, slice_get}
use Rattle.std.specs.List.{range_with_len, starts_with}
use Rattle.ansi_search.specs.Positions.{is_char_boundary}

-- the pattern p occurs in x at the character boundary i
abbrev pub is_match : List ℕ → List ℕ → ℕ → Bool
is_match x p i = is_char_boundary x i && starts_with nat_eq (drop i x) p

-- every place at which p occurs in x
abbrev pub match_places : List ℕ → List ℕ → List ℕ
match_places x p = filter (is_match x p) (range_with_len 0 (length x + 1))

-- the first match of p in x that doesn't begin before `from`, if there is one
abbrev pub first_match_from : List ℕ → List ℕ → ℕ → Option ℕ
first_match_from x p from = slice_get (filter (nat_le from) (match_places x p)) 0
