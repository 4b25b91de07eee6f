-- What definitions say of a line of the code.
use Rattle.std.specs.Prelude.{◌≡◌, ℕ, List, ◌∷◌, ◌++◌}
use Rattle.ansi_view_runs.specs.declared.lines.Line as declared
use Rattle.ansi_view_runs.specs.Lines.{Line, lines}

-- the bytes of a line and of its end
abbrev pub line_of : declared.Line → Line
line_of line = record { text = line.text.now; end = line.end.now }

-- each input that begins with these bytes has this first line or piece, and goes on with the rest
abbrev pub BeginsWithLine : List ℕ → Line → List ℕ → Type 0
BeginsWithLine bytes line rest = (more : List ℕ) → lines (bytes ++ more) ≡ line ∷ lines (rest ++ more)
