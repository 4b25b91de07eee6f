-- Ranges of a plain text, each by where it begins and where it ends.
use Rattle.std.specs.Prelude.{ℕ, ◌-◌, Bool, not, ◌&&◌, ◌==◌, List, [], ◌∷◌, length, nat_le, nat_lt, slice_index}
use Rattle.std.specs.List.{list_all, list_any}
use Rattle.std.specs.Str.{byte}
use Rattle.ansi_search.specs.Positions.{no_character_goes_on}

-- Ranges of the plain text x, in turn: each begins at n or where the one before ends, or later. It isn't past the end of x, and no character goes on where it begins or ends. (own)
abbrev pub are_in_turn : List ℕ → ℕ → List (ℕ × ℕ) → Bool
are_in_turn x n [] = nat_le n (length x)
are_in_turn x n (r ∷ rs) = nat_le n r.0 && (nat_le r.0 r.1 && (no_character_goes_on x r.0 && (no_character_goes_on x r.1 && are_in_turn x r.1 rs)))

-- each of the ranges is empty
abbrev pub are_empty : List (ℕ × ℕ) → Bool
are_empty rs = list_all (λ (r : ℕ × ℕ). r.0 == r.1) rs

-- the byte at the position i is in one of the ranges
abbrev pub is_in_any : List (ℕ × ℕ) → ℕ → Bool
is_in_any rs i = list_any (λ (r : ℕ × ℕ). nat_le r.0 i && nat_lt i r.1) rs

-- the position n of the plain text x is between a carriage return and a line feed
abbrev pub parts_line_end : List ℕ → ℕ → Bool
parts_line_end x n = slice_index x (n - 1) == byte "\r" && slice_index x n == byte "\n"

-- none of the ranges begins or ends there (own)
abbrev pub keep_line_ends : List ℕ → List (ℕ × ℕ) → Bool
keep_line_ends x rs = list_all (λ (r : ℕ × ℕ). not (parts_line_end x r.0) && not (parts_line_end x r.1)) rs

-- none of the ranges begins there (own)
abbrev pub begin_outside_line_ends : List ℕ → List (ℕ × ℕ) → Bool
begin_outside_line_ends x rs = list_all (λ (r : ℕ × ℕ). not (parts_line_end x r.0)) rs
