-- The order of styles and of colors, part by part.
use Rattle.std.specs.Prelude.{ℕ, Bool, true, false, List, [], ◌∷◌, Option, Some, None}
use Rattle.std.specs.Cmp.Lexicographic.{slice_cmp}
use Rattle.std.specs.declared.cmp.Ordering.{Ordering}
use Rattle.ansi_items.specs.declared.ansitok.AnsiColor.{AnsiColor}
use Rattle.ansi_style.specs.declared.style.color.Color.{Color}
use Rattle.ansi_style.specs.declared.style.color.Color.TheVariants.{Black, BrightBlack, Red, BrightRed, Green, BrightGreen, Yellow, BrightYellow, Blue, BrightBlue, Purple, BrightPurple, Magenta, BrightMagenta, Cyan, BrightCyan, White, BrightWhite, Fixed, Rgb}
use Rattle.ansi_items.specs.AnsiColors.{compared, ansi_color_key}
use Rattle.ansi_style.specs.declared.state.rendition.Rendition.{Rendition}

-- lists of parts compare by the first part that differs
abbrev pub compared_in_turn : List (List ℕ) → List (List ℕ) → Ordering
compared_in_turn a b = slice_cmp compared a b

-- a color compares by its rank in this list, and then by its numbers (the Rust crate)
abbrev pub color_key : Color → List ℕ
color_key Black = 0 ∷ []
color_key BrightBlack = 1 ∷ []
color_key Red = 2 ∷ []
color_key BrightRed = 3 ∷ []
color_key Green = 4 ∷ []
color_key BrightGreen = 5 ∷ []
color_key Yellow = 6 ∷ []
color_key BrightYellow = 7 ∷ []
color_key Blue = 8 ∷ []
color_key BrightBlue = 9 ∷ []
color_key Purple = 10 ∷ []
color_key BrightPurple = 11 ∷ []
color_key Magenta = 12 ∷ []
color_key BrightMagenta = 13 ∷ []
color_key Cyan = 14 ∷ []
color_key BrightCyan = 15 ∷ []
color_key White = 16 ∷ []
color_key BrightWhite = 17 ∷ []
color_key (Fixed n) = 18 ∷ n ∷ []
color_key (Rgb r g b) = 19 ∷ r ∷ g ∷ b ∷ []

-- a missing color is less than any color
abbrev pub part_of_color : Option AnsiColor → List ℕ
part_of_color None = []
part_of_color (Some c) = ansi_color_key c

-- a missing font is less than any font
abbrev pub part_of_font : Option ℕ → List ℕ
part_of_font None = []
part_of_font (Some n) = n ∷ []

-- an attribute that isn't set is less than one that is
abbrev pub part_of_attribute : Bool → List ℕ
part_of_attribute false = 0 ∷ []
part_of_attribute true = 1 ∷ []

-- the 28 parts of a style, in the order in which they are compared (the Rust crate)
abbrev pub parts_in_order : Rendition → List (List ℕ)
parts_in_order s =
    part_of_color s.foreground
    ∷ part_of_color s.background
    ∷ part_of_color s.underline_color
    ∷ part_of_attribute s.bold
    ∷ part_of_attribute s.faint
    ∷ part_of_attribute s.italic
    ∷ part_of_attribute s.underline
    ∷ part_of_attribute s.double_underline
    ∷ part_of_attribute s.slow_blink
    ∷ part_of_attribute s.rapid_blink
    ∷ part_of_attribute s.inverse
    ∷ part_of_attribute s.hide
    ∷ part_of_attribute s.crossed_out
    ∷ part_of_attribute s.reset
    ∷ part_of_attribute s.framed
    ∷ part_of_attribute s.encircled
    ∷ part_of_font s.font
    ∷ part_of_attribute s.fraktur
    ∷ part_of_attribute s.proportional_spacing
    ∷ part_of_attribute s.overlined
    ∷ part_of_attribute s.ideogram_underline
    ∷ part_of_attribute s.ideogram_double_underline
    ∷ part_of_attribute s.ideogram_overline
    ∷ part_of_attribute s.ideogram_double_overline
    ∷ part_of_attribute s.ideogram_stress_marking
    ∷ part_of_attribute s.superscript
    ∷ part_of_attribute s.subscript
    ∷ part_of_attribute s.unknown
    ∷ []
