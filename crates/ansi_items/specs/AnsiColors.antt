-- The order of colors as SGR codes write them: by their kind, and then by their numbers.
use Rattle.std.specs.Prelude.{ℕ, List, [], ◌∷◌}
use Rattle.std.specs.Ordering.{nat_cmp}
use Rattle.std.specs.Cmp.Lexicographic.{slice_cmp}
use Rattle.std.specs.declared.cmp.Ordering.{Ordering}
use Rattle.ansi_items.specs.declared.ansitok.AnsiColor.{AnsiColor}
use Rattle.ansi_items.specs.declared.ansitok.AnsiColor.TheVariants.{Bit4, Bit8, Bit24}

-- lists of numbers compare by the first number that differs; a list that ends first is less
abbrev pub compared : List ℕ → List ℕ → Ordering
compared a b = slice_cmp nat_cmp a b

-- a color as SGR codes write it compares by its kind, and then by its numbers (the Rust crate)
abbrev pub ansi_color_key : AnsiColor → List ℕ
ansi_color_key (Bit4 n) = 0 ∷ n ∷ []
ansi_color_key (Bit8 n) = 1 ∷ n ∷ []
ansi_color_key (Bit24 r g b) = 2 ∷ r ∷ g ∷ b ∷ []
