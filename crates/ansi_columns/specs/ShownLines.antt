-- What is between the lines that are shown of a text, as positions of its plain text.
use Rattle.std.specs.Prelude.{◌≡◌, ℕ, ◌≤◌, List, [], ◌∷◌, length, take, drop, slice_range}
use Rattle.ansi_clusters.specs.Columns.{lined}
use Rattle.ansi_clusters.specs.Lines.{blanks, IsLeftOut}

-- lines show blanks alone of the plain text x
abbrev pub ShowsBlanks : List ℕ → Type 0
ShowsBlanks x = (n : ℕ) × (lined x ≡ blanks n)

-- there is a first line, and of what precedes it only blanks are shown
abbrev pub BeginWithShownBlanks : List ℕ → List (ℕ × ℕ) → Type 0
BeginWithShownBlanks x [] = ⊥
BeginWithShownBlanks x (line ∷ lines) = ShowsBlanks (take line.0 x)

-- The lines are stretches of x, in order, from the place e on. What is shown of what precedes each line may be left out, and only blanks are shown of what follows the last one.
abbrev pub AreShownLinesFrom : List ℕ → ℕ → List (ℕ × ℕ) → Type 0
AreShownLinesFrom x e [] = ShowsBlanks (drop e x)
AreShownLinesFrom x e (line ∷ lines) = (e ≤ line.0) × (line.0 ≤ line.1) × (line.1 ≤ length x) × IsLeftOut (lined (slice_range x e line.0)) × AreShownLinesFrom x line.1 lines
