-- Colors and fonts as numbers.
use Rattle.std.specs.Prelude.{ℕ, false, true, ◌==◌, ◌/◌, ◌%◌, ◌^◌, Option, None, Some, if◌then◌else◌}
use Rattle.ansi_items.specs.declared.ansitok.AnsiColor.{AnsiColor}
use Rattle.ansi_items.specs.declared.ansitok.AnsiColor.TheVariants.{Bit4, Bit8, Bit24}
use Rattle.ansi_style.specs.declared.numbers.ColorNumbers.{ColorNumbers}
use Rattle.ansi_style.specs.declared.numbers.FontNumbers.{FontNumbers}

-- the color that the numbers encode, by its kind; the kind 0 means no color (own)
abbrev pub color_of_numbers : ColorNumbers → Option AnsiColor
color_of_numbers n =
    if n.kind == 0 then None else
    if n.kind == 1 then Some (Bit4 n.first) else
    if n.kind == 2 then Some (Bit8 n.first) else
    Some (Bit24 n.first n.second n.third)

-- the numbers that encode a color: its kind, and 0 in each byte that the kind doesn't use (own)
abbrev pub numbers_of_color : Option AnsiColor → ColorNumbers
numbers_of_color None = record { kind = 0; first = 0; second = 0; third = 0 }
numbers_of_color (Some (Bit4 code)) = record { kind = 1; first = code; second = 0; third = 0 }
numbers_of_color (Some (Bit8 number)) = record { kind = 2; first = number; second = 0; third = 0 }
numbers_of_color (Some (Bit24 r g b)) = record { kind = 3; first = r; second = g; third = b }

-- the font that the numbers encode (own)
abbrev pub font_of_numbers : FontNumbers → Option ℕ
font_of_numbers n = if n.is_set then Some n.number else None

-- the font whose code is in the upper 8 bits of a word of 32, or none if they are 0 (own)
abbrev pub font_of_word : ℕ → Option ℕ
font_of_word word = let code = word / 2 ^ 24 % 2 ^ 8 in if code == 0 then None else Some code

-- the numbers that encode a font; 0 if there is none (own)
abbrev pub numbers_of_font : Option ℕ → FontNumbers
numbers_of_font None = record { is_set = false; number = 0 }
numbers_of_font (Some number) = record { is_set = true; number = number }
