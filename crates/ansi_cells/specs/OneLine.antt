-- Texts on one line.
use Rattle.std.specs.Prelude.{ℕ, ◌==◌, Bool, not, ◌||◌, List}
use Rattle.std.specs.List.{list_all}
use Rattle.std.specs.Str.{byte}
use Rattle.ansi_items.specs.Plain.{plain}

-- the plain text of t has no TAB and no line end: no line feed and no carriage return (own)
abbrev pub is_one_line : List ℕ → Bool
is_one_line t = list_all (λ b. not (b == byte "\t" || b == byte "\n" || b == byte "\r")) (plain t)
