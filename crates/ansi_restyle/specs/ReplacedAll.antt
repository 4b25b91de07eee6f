-- A text with another text in place of each match of a pattern.
use Rattle.std.specs.Prelude.{ℕ, List}
use Rattle.ansi_items.specs.Plain.{plain}
use Rattle.ansi_restyle.specs.Matches.{matches}
use Rattle.ansi_restyle.specs.ReplacedEach.{swaps_with, replaced_each, IsReplacedEach}

-- The headline: u is t with w in place of each of the ranges (own)
abbrev pub IsReplacedAll : List ℕ → List (ℕ × ℕ) → List ℕ → List ℕ → Type 0
IsReplacedAll t rs w u = IsReplacedEach t (swaps_with w rs) u

-- t with w in place of each match of p
abbrev pub replaced_all : List ℕ → List ℕ → List ℕ → List ℕ
replaced_all t p w = replaced_each t (swaps_with w (matches (plain t) p))
