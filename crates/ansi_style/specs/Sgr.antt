-- The SGR table: what the codes of an SGR do to a style (ECMA-48, section 8.3.117, and the Rust crate for what it lacks).
use Rattle.std.specs.Prelude.{ℕ, zero, suc, Bool, true, false, ◌&&◌, List, [], ◌∷◌, length, ◌==◌, nat_le, nat_lt, Option, Some, None, if◌then◌else◌, find, fold, unwrap_or}
use Rattle.std.specs.List.{slice_split}
use Rattle.std.specs.Int.{is_in_range}
use Rattle.std.specs.Option.{option_map_or}
use Rattle.std.specs.Str.{byte, all_ascii_digits}
use Rattle.std.specs.Str.Parse.{digits_value}
use Rattle.ansi_items.specs.declared.ansitok.AnsiColor.{AnsiColor}
use Rattle.ansi_items.specs.declared.ansitok.AnsiColor.TheVariants.{Bit4, Bit8, Bit24}
use Rattle.ansi_style.specs.Rendition.{Rendition, plain_style}
use Rattle.ansi_items.specs.Sequences.{sgr_parameters}

-- a code changes the style, or reads a color from the fields after it and puts that into the style
pub data Effect : Type 0 where
  Changes : (Rendition → Rendition) → Effect
  ReadsColor : (AnsiColor → Rendition → Rendition) → Effect

-- rows of the table: the codes from `first` to `last`, and the effect of each
pub record Rows : Type 0 where
  pub first : ℕ
  pub last : ℕ
  pub effect : ℕ → Effect

-- the rows of a range of codes
abbrev pub rows : ℕ → ℕ → (ℕ → Effect) → Rows
rows first last effect = record { first = first; last = last; effect = effect }

-- the row of one code
abbrev pub row : ℕ → Effect → Rows
row code effect = rows code code (λ _. effect)

-- the table, a row for each known code or range of codes
abbrev pub table : List Rows
table =
    row 0 (Changes (λ _. record plain_style { reset = true }))
    ∷ row 1 (Changes (λ s. record s { bold = true }))
    ∷ row 2 (Changes (λ s. record s { faint = true }))
    ∷ row 3 (Changes (λ s. record s { italic = true }))
    ∷ row 4 (Changes (λ s. record s { underline = true }))
    ∷ row 5 (Changes (λ s. record s { slow_blink = true }))
    ∷ row 6 (Changes (λ s. record s { rapid_blink = true }))
    ∷ row 7 (Changes (λ s. record s { inverse = true }))
    ∷ row 8 (Changes (λ s. record s { hide = true }))
    ∷ row 9 (Changes (λ s. record s { crossed_out = true }))
    ∷ row 10 (Changes (λ s. record s { font = None }))
    ∷ rows 11 19 (λ n. Changes (λ s. record s { font = Some n }))
    ∷ row 20 (Changes (λ s. record s { fraktur = true }))
    ∷ row 21 (Changes (λ s. record s { double_underline = true }))
    ∷ row 22 (Changes (λ s. record s { bold = false; faint = false }))
    ∷ row 23 (Changes (λ s. record s { italic = false; fraktur = false }))
    ∷ row 24 (Changes (λ s. record s { underline = false; double_underline = false }))
    ∷ row 25 (Changes (λ s. record s { slow_blink = false; rapid_blink = false }))
    ∷ row 26 (Changes (λ s. record s { proportional_spacing = true }))
    ∷ row 27 (Changes (λ s. record s { inverse = false }))
    ∷ row 28 (Changes (λ s. record s { hide = false }))
    ∷ row 29 (Changes (λ s. record s { crossed_out = false }))
    ∷ rows 30 37 (λ n. Changes (λ s. record s { foreground = Some (Bit4 n) }))
    ∷ row 38 (ReadsColor (λ c s. record s { foreground = Some c }))
    ∷ row 39 (Changes (λ s. record s { foreground = None }))
    ∷ rows 40 47 (λ n. Changes (λ s. record s { background = Some (Bit4 n) }))
    ∷ row 48 (ReadsColor (λ c s. record s { background = Some c }))
    ∷ row 49 (Changes (λ s. record s { background = None }))
    ∷ row 50 (Changes (λ s. record s { proportional_spacing = false }))
    ∷ row 51 (Changes (λ s. record s { framed = true }))
    ∷ row 52 (Changes (λ s. record s { encircled = true }))
    ∷ row 53 (Changes (λ s. record s { overlined = true }))
    ∷ row 54 (Changes (λ s. record s { framed = false; encircled = false }))
    ∷ row 55 (Changes (λ s. record s { overlined = false }))
    ∷ row 58 (ReadsColor (λ c s. record s { underline_color = Some c }))
    ∷ row 59 (Changes (λ s. record s { underline_color = None }))
    ∷ row 60 (Changes (λ s. record s { ideogram_underline = true }))
    ∷ row 61 (Changes (λ s. record s { ideogram_double_underline = true }))
    ∷ row 62 (Changes (λ s. record s { ideogram_overline = true }))
    ∷ row 63 (Changes (λ s. record s { ideogram_double_overline = true }))
    ∷ row 64 (Changes (λ s. record s { ideogram_stress_marking = true }))
    ∷ row 65 (Changes (λ s. record s { ideogram_underline = false; ideogram_double_underline = false; ideogram_overline = false; ideogram_double_overline = false; ideogram_stress_marking = false }))
    ∷ row 73 (Changes (λ s. record s { superscript = true }))
    ∷ row 74 (Changes (λ s. record s { subscript = true }))
    ∷ row 75 (Changes (λ s. record s { superscript = false; subscript = false }))
    ∷ rows 90 97 (λ n. Changes (λ s. record s { foreground = Some (Bit4 n) }))
    ∷ rows 100 107 (λ n. Changes (λ s. record s { background = Some (Bit4 n) }))
    ∷ []

-- any other code
abbrev pub unknown_code : Effect
unknown_code = Changes (λ s. record s { unknown = true })

-- a field is a number if it is one or more digits, leading zeros allowed, with a value of at most 255; no code and no number of a color is larger
abbrev pub number_of : List ℕ → Option ℕ
number_of field =
    if nat_lt 0 (length field) && (all_ascii_digits field && nat_le (digits_value 10 field) 255)
    then Some (digits_value 10 field) else None

-- a field is read as a code if it is a number, and an empty field as 0 (ECMA-48, sections 5.4.2 and 8.3.117)
abbrev pub code_of : List ℕ → Option ℕ
code_of [] = Some 0
code_of field = number_of field

-- the effect of a number as a code
abbrev pub effect_of_code : ℕ → Effect
effect_of_code n = option_map_or (λ (r : Rows). r.effect n) (find (λ (r : Rows). is_in_range r.first r.last n) table) unknown_code

-- the effect of a field
abbrev pub effect_of : List ℕ → Effect
effect_of field = option_map_or effect_of_code (code_of field) unknown_code

-- the field is read as the code n
abbrev pub is_code : ℕ → List ℕ → Bool
is_code n field = option_map_or (λ m. m == n) (code_of field) false

-- the number that a field gives to a color, which is 0 if the field is no number (the Rust crate)
abbrev pub color_number : List ℕ → ℕ
color_number field = unwrap_or (number_of field) 0

-- after the selector 2, three numbers are a color's red, green and blue; if one is missing, all fields are used up
abbrev pub color_by_parts : List (List ℕ) → Option AnsiColor × List (List ℕ)
color_by_parts (r ∷ g ∷ b ∷ fields) = (Some (Bit24 (color_number r) (color_number g) (color_number b)), fields)
color_by_parts _ = (None, [])

-- after the selector 5, a number selects one of 256 colors
abbrev pub color_by_number : List (List ℕ) → Option AnsiColor × List (List ℕ)
color_by_number [] = (None, [])
color_by_number (n ∷ fields) = (Some (Bit8 (color_number n)), fields)

-- a color is read by its selector, the first field; the fields read are used up whether there is a color or not
abbrev pub read_color : List (List ℕ) → Option AnsiColor × List (List ℕ)
read_color [] = (None, [])
read_color (selector ∷ fields) =
    if is_code 2 selector then color_by_parts fields
    else (if is_code 5 selector then color_by_number fields else (None, fields))

-- the style after an effect, and the fields that are left
abbrev pub perform : Effect → Rendition → List (List ℕ) → Rendition × List (List ℕ)
perform (Changes f) s fields = (f s, fields)
perform (ReadsColor put) s fields =
    let read = read_color fields in
    (option_map_or (λ c. put c s) read.0 s, read.1)

-- one step of the table: a code, with the fields that it reads
abbrev pub step : Rendition → List (List ℕ) → Rendition × List (List ℕ)
step s [] = (s, [])
step s (field ∷ fields) = perform (effect_of field) s fields

-- n steps, or fewer if the fields run out
abbrev pub steps : ℕ → Rendition → List (List ℕ) → Rendition
steps zero s fields = s
steps (suc n) s fields =
    let next = step s fields in
    steps n next.0 next.1

-- the fields of parameter bytes: the parts between semicolons
abbrev pub fields_of : List ℕ → List (List ℕ)
fields_of parameters = slice_split (λ b. b == byte ";") parameters

-- the style after the fields of these parameter bytes
abbrev pub apply_parameters : Rendition → List ℕ → Rendition
apply_parameters s parameters =
    let fields = fields_of parameters in
    steps (length fields) s fields

-- the style after the sequence w: only an SGR changes it
abbrev pub apply : Rendition → List ℕ → Rendition
apply s w = option_map_or (apply_parameters s) (sgr_parameters w) s

-- the style after these sequences, in order
abbrev pub apply_all : Rendition → List (List ℕ) → Rendition
apply_all s ws = fold apply s ws
