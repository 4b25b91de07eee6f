-- The names of colors.
use Rattle.std.specs.Prelude.{ℕ, ◌||◌, ◌==◌, if◌then◌else◌}
use Rattle.ansi_items.specs.declared.ansitok.AnsiColor.{AnsiColor}
use Rattle.ansi_items.specs.declared.ansitok.AnsiColor.TheVariants.{Bit4, Bit8, Bit24}
use Rattle.ansi_style.specs.declared.style.color.Color.{Color}
use Rattle.ansi_style.specs.declared.style.color.Color.TheVariants.{Black, BrightBlack, Red, BrightRed, Green, BrightGreen, Yellow, BrightYellow, Blue, BrightBlue, Magenta, BrightMagenta, Cyan, BrightCyan, White, BrightWhite, Fixed, Rgb}

-- a color of the sixteen by its code, as a foreground or as a background; any other code stays a number (the Rust crate)
abbrev pub color_of_code : ℕ → Color
color_of_code n =
    if n == 30 || n == 40 then Black else
    if n == 31 || n == 41 then Red else
    if n == 32 || n == 42 then Green else
    if n == 33 || n == 43 then Yellow else
    if n == 34 || n == 44 then Blue else
    if n == 35 || n == 45 then Magenta else
    if n == 36 || n == 46 then Cyan else
    if n == 37 || n == 47 then White else
    if n == 90 || n == 100 then BrightBlack else
    if n == 91 || n == 101 then BrightRed else
    if n == 92 || n == 102 then BrightGreen else
    if n == 93 || n == 103 then BrightYellow else
    if n == 94 || n == 104 then BrightBlue else
    if n == 95 || n == 105 then BrightMagenta else
    if n == 96 || n == 106 then BrightCyan else
    if n == 97 || n == 107 then BrightWhite else
    Fixed n

-- the name of a color (the Rust crate)
abbrev pub color_of : AnsiColor → Color
color_of (Bit4 n) = color_of_code n
color_of (Bit8 n) = Fixed n
color_of (Bit24 r g b) = Rgb r g b
