-- The matches of a pattern in a plain text.
use Rattle.std.specs.Prelude.{ℕ, ◌+◌, List, length, map}
use Rattle.ansi_search.specs.Matches.{match_places}
use Rattle.ansi_split.specs.Parts.{without_overlaps}

-- the matches of p in x that don't overlap, in order, each by where it begins and where it ends (std's `match_indices`)
abbrev pub matches : List ℕ → List ℕ → List (ℕ × ℕ)
matches x p = map (λ m. (m, m + length p)) (without_overlaps (length p) 0 (match_places x p))

-- those that are left, if x is what is left of a plain text after its first n bytes, and the next match doesn't begin before `from` in x
abbrev pub matches_left : ℕ → List ℕ → List ℕ → ℕ → List (ℕ × ℕ)
matches_left n x p from = map (λ m. (n + m, n + m + length p)) (without_overlaps (length p) from (match_places x p))
