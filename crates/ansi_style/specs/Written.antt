-- The sequences that set a style, its start, and those that reset it, its close.
use Rattle.std.specs.Prelude.{ℕ, Bool, ◌&&◌, ◌||◌, List, [], ◌∷◌, ◌++◌, Option, Some, None, is_some, if◌then◌else◌, codes, decimal, flat_map}
use Rattle.ansi_items.specs.declared.ansitok.AnsiColor.{AnsiColor}
use Rattle.ansi_items.specs.declared.ansitok.AnsiColor.TheVariants.{Bit4, Bit8, Bit24}
use Rattle.ansi_style.specs.Rendition.{Rendition, has_any, has_ideogram_attribute}

-- each code is written in an SGR of its own (the Rust crate)
abbrev pub written : List ℕ → List ℕ
written code = codes "\u{1b}[" ++ code ++ codes "m"

-- a list of codes, each in a sequence of its own
abbrev pub written_all : List (List ℕ) → List ℕ
written_all all = flat_map written all

-- a code, if the condition holds
abbrev pub code_if : Bool → List ℕ → List (List ℕ)
code_if b code = if b then code ∷ [] else []

-- the code of a color; `extended` is the code that precedes a color beyond the sixteen
abbrev pub color_code : List ℕ → AnsiColor → List ℕ
color_code extended (Bit4 n) = decimal n
color_code extended (Bit8 n) = extended ++ codes ";5;" ++ decimal n
color_code extended (Bit24 r g b) = extended ++ codes ";2;" ++ decimal r ++ codes ";" ++ decimal g ++ codes ";" ++ decimal b

-- the code of a color, if one is set
abbrev pub color_codes : List ℕ → Option AnsiColor → List (List ℕ)
color_codes extended None = []
color_codes extended (Some c) = color_code extended c ∷ []

-- the code of a font, if one is set
abbrev pub font_codes : Option ℕ → List (List ℕ)
font_codes None = []
font_codes (Some n) = decimal n ∷ []

-- the codes that set a style, in the order in which they are written (the Rust crate)
abbrev pub start_codes : Rendition → List (List ℕ)
start_codes s =
    code_if s.bold (codes "1")
    ++ code_if s.faint (codes "2")
    ++ code_if s.italic (codes "3")
    ++ code_if s.underline (codes "4")
    ++ code_if s.slow_blink (codes "5")
    ++ code_if s.rapid_blink (codes "6")
    ++ code_if s.inverse (codes "7")
    ++ code_if s.hide (codes "8")
    ++ code_if s.crossed_out (codes "9")
    ++ font_codes s.font
    ++ code_if s.fraktur (codes "20")
    ++ code_if s.double_underline (codes "21")
    ++ code_if s.proportional_spacing (codes "26")
    ++ color_codes (codes "38") s.foreground
    ++ color_codes (codes "48") s.background
    ++ color_codes (codes "58") s.underline_color
    ++ code_if s.framed (codes "51")
    ++ code_if s.encircled (codes "52")
    ++ code_if s.overlined (codes "53")
    ++ code_if s.ideogram_underline (codes "60")
    ++ code_if s.ideogram_double_underline (codes "61")
    ++ code_if s.ideogram_overline (codes "62")
    ++ code_if s.ideogram_double_overline (codes "63")
    ++ code_if s.ideogram_stress_marking (codes "64")
    ++ code_if s.superscript (codes "73")
    ++ code_if s.subscript (codes "74")

-- the codes that reset a style, in the order in which they are written (the Rust crate)
abbrev pub close_codes : Rendition → List (List ℕ)
close_codes s =
    code_if (s.unknown && s.reset) (codes "0")
    ++ code_if (is_some s.font) (codes "10")
    ++ code_if (s.bold || s.faint) (codes "22")
    ++ code_if (s.italic || s.fraktur) (codes "23")
    ++ code_if (s.underline || s.double_underline) (codes "24")
    ++ code_if (s.slow_blink || s.rapid_blink) (codes "25")
    ++ code_if s.inverse (codes "27")
    ++ code_if s.hide (codes "28")
    ++ code_if s.crossed_out (codes "29")
    ++ code_if (is_some s.foreground) (codes "39")
    ++ code_if (is_some s.background) (codes "49")
    ++ code_if s.proportional_spacing (codes "50")
    ++ code_if (s.framed || s.encircled) (codes "54")
    ++ code_if s.overlined (codes "55")
    ++ code_if (has_ideogram_attribute s) (codes "65")
    ++ code_if (is_some s.underline_color) (codes "59")
    ++ code_if (s.superscript || s.subscript) (codes "75")
    ++ code_if s.unknown (codes "0")

-- the start of a style: the bytes that set it
abbrev pub start : Rendition → List ℕ
start s = written_all (start_codes s)

-- the close of a style: the bytes that reset it
abbrev pub close : Rendition → List ℕ
close s = written_all (close_codes s)

-- the close of a style if it has something to reset, otherwise nothing (the Rust crate)
abbrev pub close_if_any : Rendition → List ℕ
close_if_any s = if has_any s then close s else []

-- the longest start has 9 codes of 4 bytes, 14 of 5, and three colors of 19
abbrev pub longest_start : ℕ
longest_start = 163

-- the longest close has 16 codes of 5 bytes and two of 4
abbrev pub longest_close : ℕ
longest_close = 88

-- the longest start and the longest close together
abbrev pub longest_start_and_close : ℕ
longest_start_and_close = 251
