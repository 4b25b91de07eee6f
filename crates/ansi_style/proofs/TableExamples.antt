-- Worked examples of each row of the three tables, by computation: what a code sets, how a style is written, and what a color is called.
use Rattle.ansi_style.proofs.Common.{◌≡◌, ℕ, List, [], ◌∷◌, ◌++◌, map, filter, not, refl, codes, true, false, Some, None, range_with_len, digits, Bit4, Bit8, Bit24, Black, BrightBlack, Red, BrightRed, Green, BrightGreen, Yellow, BrightYellow, Blue, BrightBlue, Magenta, BrightMagenta, Cyan, BrightCyan, White, BrightWhite, Fixed, Rgb, Rendition, plain_style, has_any, effect_of_code, perform, apply_parameters, start, close, color_of}
use Rattle.ansi_items.proofs.Tables.{MakesRows}

-- The SGR table.

-- codes, and the style after them, if s is the style before: each row, and the first and the last code of each range
codes_read : (s : Rendition) → MakesRows (apply_parameters s) (
    (codes "0", record plain_style { reset = true })
    ∷ (codes "1", record s { bold = true })
    ∷ (codes "2", record s { faint = true })
    ∷ (codes "3", record s { italic = true })
    ∷ (codes "4", record s { underline = true })
    ∷ (codes "5", record s { slow_blink = true })
    ∷ (codes "6", record s { rapid_blink = true })
    ∷ (codes "7", record s { inverse = true })
    ∷ (codes "8", record s { hide = true })
    ∷ (codes "9", record s { crossed_out = true })
    ∷ (codes "10", record s { font = None })
    ∷ (codes "11", record s { font = Some 11 })
    ∷ (codes "19", record s { font = Some 19 })
    ∷ (codes "20", record s { fraktur = true })
    ∷ (codes "21", record s { double_underline = true })
    ∷ (codes "22", record s { bold = false; faint = false })
    ∷ (codes "23", record s { italic = false; fraktur = false })
    ∷ (codes "24", record s { underline = false; double_underline = false })
    ∷ (codes "25", record s { slow_blink = false; rapid_blink = false })
    ∷ (codes "26", record s { proportional_spacing = true })
    ∷ (codes "27", record s { inverse = false })
    ∷ (codes "28", record s { hide = false })
    ∷ (codes "29", record s { crossed_out = false })
    ∷ (codes "30", record s { foreground = Some (Bit4 30) })
    ∷ (codes "37", record s { foreground = Some (Bit4 37) })
    ∷ (codes "38;5;200", record s { foreground = Some (Bit8 200) })
    ∷ (codes "38;2;1;2;3", record s { foreground = Some (Bit24 1 2 3) })
    ∷ (codes "39", record s { foreground = None })
    ∷ (codes "40", record s { background = Some (Bit4 40) })
    ∷ (codes "47", record s { background = Some (Bit4 47) })
    ∷ (codes "48;5;200", record s { background = Some (Bit8 200) })
    ∷ (codes "48;2;1;2;3", record s { background = Some (Bit24 1 2 3) })
    ∷ (codes "49", record s { background = None })
    ∷ (codes "50", record s { proportional_spacing = false })
    ∷ (codes "51", record s { framed = true })
    ∷ (codes "52", record s { encircled = true })
    ∷ (codes "53", record s { overlined = true })
    ∷ (codes "54", record s { framed = false; encircled = false })
    ∷ (codes "55", record s { overlined = false })
    ∷ (codes "56", record s { unknown = true })
    ∷ (codes "57", record s { unknown = true })
    ∷ (codes "58;5;200", record s { underline_color = Some (Bit8 200) })
    ∷ (codes "58;2;1;2;3", record s { underline_color = Some (Bit24 1 2 3) })
    ∷ (codes "59", record s { underline_color = None })
    ∷ (codes "60", record s { ideogram_underline = true })
    ∷ (codes "61", record s { ideogram_double_underline = true })
    ∷ (codes "62", record s { ideogram_overline = true })
    ∷ (codes "63", record s { ideogram_double_overline = true })
    ∷ (codes "64", record s { ideogram_stress_marking = true })
    ∷ (codes "65", record s { ideogram_underline = false; ideogram_double_underline = false; ideogram_overline = false; ideogram_double_overline = false; ideogram_stress_marking = false })
    ∷ (codes "66", record s { unknown = true })
    ∷ (codes "72", record s { unknown = true })
    ∷ (codes "73", record s { superscript = true })
    ∷ (codes "74", record s { subscript = true })
    ∷ (codes "75", record s { superscript = false; subscript = false })
    ∷ (codes "76", record s { unknown = true })
    ∷ (codes "89", record s { unknown = true })
    ∷ (codes "90", record s { foreground = Some (Bit4 90) })
    ∷ (codes "97", record s { foreground = Some (Bit4 97) })
    ∷ (codes "98", record s { unknown = true })
    ∷ (codes "99", record s { unknown = true })
    ∷ (codes "100", record s { background = Some (Bit4 100) })
    ∷ (codes "107", record s { background = Some (Bit4 107) })
    ∷ (codes "108", record s { unknown = true })
    ∷ [])
codes_read s = refl

-- each code of a range
ranges_read : (s : Rendition) → MakesRows (map (λ code. (perform (effect_of_code code) s []).0)) (
    (range_with_len 11 9, map (λ code. record s { font = Some code }) (range_with_len 11 9))
    ∷ (range_with_len 30 8 ++ range_with_len 90 8, map (λ code. record s { foreground = Some (Bit4 code) }) (range_with_len 30 8 ++ range_with_len 90 8))
    ∷ (range_with_len 40 8 ++ range_with_len 100 8, map (λ code. record s { background = Some (Bit4 code) }) (range_with_len 40 8 ++ range_with_len 100 8))
    ∷ [])
ranges_read s = refl

-- Starts and closes.

-- a style in which one part is set, with its start and its close
abbrev styles_written : List (Rendition × List ℕ × List ℕ)
styles_written =
    (record plain_style { bold = true }, codes "\u{1b}[1m", codes "\u{1b}[22m")
    ∷ (record plain_style { faint = true }, codes "\u{1b}[2m", codes "\u{1b}[22m")
    ∷ (record plain_style { italic = true }, codes "\u{1b}[3m", codes "\u{1b}[23m")
    ∷ (record plain_style { underline = true }, codes "\u{1b}[4m", codes "\u{1b}[24m")
    ∷ (record plain_style { slow_blink = true }, codes "\u{1b}[5m", codes "\u{1b}[25m")
    ∷ (record plain_style { rapid_blink = true }, codes "\u{1b}[6m", codes "\u{1b}[25m")
    ∷ (record plain_style { inverse = true }, codes "\u{1b}[7m", codes "\u{1b}[27m")
    ∷ (record plain_style { hide = true }, codes "\u{1b}[8m", codes "\u{1b}[28m")
    ∷ (record plain_style { crossed_out = true }, codes "\u{1b}[9m", codes "\u{1b}[29m")
    ∷ (record plain_style { font = Some 11 }, codes "\u{1b}[11m", codes "\u{1b}[10m")
    ∷ (record plain_style { font = Some 19 }, codes "\u{1b}[19m", codes "\u{1b}[10m")
    ∷ (record plain_style { fraktur = true }, codes "\u{1b}[20m", codes "\u{1b}[23m")
    ∷ (record plain_style { double_underline = true }, codes "\u{1b}[21m", codes "\u{1b}[24m")
    ∷ (record plain_style { proportional_spacing = true }, codes "\u{1b}[26m", codes "\u{1b}[50m")
    ∷ (record plain_style { foreground = Some (Bit4 30) }, codes "\u{1b}[30m", codes "\u{1b}[39m")
    ∷ (record plain_style { foreground = Some (Bit4 37) }, codes "\u{1b}[37m", codes "\u{1b}[39m")
    ∷ (record plain_style { foreground = Some (Bit4 90) }, codes "\u{1b}[90m", codes "\u{1b}[39m")
    ∷ (record plain_style { foreground = Some (Bit4 97) }, codes "\u{1b}[97m", codes "\u{1b}[39m")
    ∷ (record plain_style { foreground = Some (Bit8 200) }, codes "\u{1b}[38;5;200m", codes "\u{1b}[39m")
    ∷ (record plain_style { foreground = Some (Bit24 1 2 3) }, codes "\u{1b}[38;2;1;2;3m", codes "\u{1b}[39m")
    ∷ (record plain_style { background = Some (Bit4 40) }, codes "\u{1b}[40m", codes "\u{1b}[49m")
    ∷ (record plain_style { background = Some (Bit4 47) }, codes "\u{1b}[47m", codes "\u{1b}[49m")
    ∷ (record plain_style { background = Some (Bit4 100) }, codes "\u{1b}[100m", codes "\u{1b}[49m")
    ∷ (record plain_style { background = Some (Bit4 107) }, codes "\u{1b}[107m", codes "\u{1b}[49m")
    ∷ (record plain_style { background = Some (Bit8 200) }, codes "\u{1b}[48;5;200m", codes "\u{1b}[49m")
    ∷ (record plain_style { background = Some (Bit24 1 2 3) }, codes "\u{1b}[48;2;1;2;3m", codes "\u{1b}[49m")
    ∷ (record plain_style { underline_color = Some (Bit8 200) }, codes "\u{1b}[58;5;200m", codes "\u{1b}[59m")
    ∷ (record plain_style { underline_color = Some (Bit24 1 2 3) }, codes "\u{1b}[58;2;1;2;3m", codes "\u{1b}[59m")
    ∷ (record plain_style { framed = true }, codes "\u{1b}[51m", codes "\u{1b}[54m")
    ∷ (record plain_style { encircled = true }, codes "\u{1b}[52m", codes "\u{1b}[54m")
    ∷ (record plain_style { overlined = true }, codes "\u{1b}[53m", codes "\u{1b}[55m")
    ∷ (record plain_style { ideogram_underline = true }, codes "\u{1b}[60m", codes "\u{1b}[65m")
    ∷ (record plain_style { ideogram_double_underline = true }, codes "\u{1b}[61m", codes "\u{1b}[65m")
    ∷ (record plain_style { ideogram_overline = true }, codes "\u{1b}[62m", codes "\u{1b}[65m")
    ∷ (record plain_style { ideogram_double_overline = true }, codes "\u{1b}[63m", codes "\u{1b}[65m")
    ∷ (record plain_style { ideogram_stress_marking = true }, codes "\u{1b}[64m", codes "\u{1b}[65m")
    ∷ (record plain_style { superscript = true }, codes "\u{1b}[73m", codes "\u{1b}[75m")
    ∷ (record plain_style { subscript = true }, codes "\u{1b}[74m", codes "\u{1b}[75m")
    ∷ (record plain_style { reset = true }, codes "", codes "")
    ∷ (record plain_style { unknown = true }, codes "", codes "\u{1b}[0m")
    ∷ (record plain_style { reset = true; unknown = true }, codes "", codes "\u{1b}[0m\u{1b}[0m")
    ∷ []

each_style_is_written : map (λ (row : Rendition × List ℕ × List ℕ). (row.0, start row.0, close row.0)) styles_written ≡ styles_written
unfolding digits
each_style_is_written = refl

-- nothing to end have the plain style, and of these styles two, in which a mark alone is set that no code reads
nothing_to_end : filter (λ s. not (has_any s)) (plain_style ∷ map (λ (row : Rendition × List ℕ × List ℕ). row.0) styles_written)
    ≡ plain_style ∷ record plain_style { reset = true } ∷ record plain_style { unknown = true } ∷ []
nothing_to_end = refl

-- The names of colors.

colors_named : MakesRows color_of (
    (Bit4 30, Black) ∷ (Bit4 31, Red) ∷ (Bit4 32, Green) ∷ (Bit4 33, Yellow)
    ∷ (Bit4 34, Blue) ∷ (Bit4 35, Magenta) ∷ (Bit4 36, Cyan) ∷ (Bit4 37, White)
    ∷ (Bit4 40, Black) ∷ (Bit4 41, Red) ∷ (Bit4 42, Green) ∷ (Bit4 43, Yellow)
    ∷ (Bit4 44, Blue) ∷ (Bit4 45, Magenta) ∷ (Bit4 46, Cyan) ∷ (Bit4 47, White)
    ∷ (Bit4 90, BrightBlack) ∷ (Bit4 91, BrightRed) ∷ (Bit4 92, BrightGreen) ∷ (Bit4 93, BrightYellow)
    ∷ (Bit4 94, BrightBlue) ∷ (Bit4 95, BrightMagenta) ∷ (Bit4 96, BrightCyan) ∷ (Bit4 97, BrightWhite)
    ∷ (Bit4 100, BrightBlack) ∷ (Bit4 101, BrightRed) ∷ (Bit4 102, BrightGreen) ∷ (Bit4 103, BrightYellow)
    ∷ (Bit4 104, BrightBlue) ∷ (Bit4 105, BrightMagenta) ∷ (Bit4 106, BrightCyan) ∷ (Bit4 107, BrightWhite)
    ∷ (Bit4 29, Fixed 29) ∷ (Bit4 38, Fixed 38) ∷ (Bit4 39, Fixed 39) ∷ (Bit4 48, Fixed 48)
    ∷ (Bit4 89, Fixed 89) ∷ (Bit4 98, Fixed 98) ∷ (Bit4 99, Fixed 99) ∷ (Bit4 108, Fixed 108)
    ∷ (Bit8 31, Fixed 31) ∷ (Bit24 1 2 3, Rgb 1 2 3)
    ∷ [])
colors_named = refl
