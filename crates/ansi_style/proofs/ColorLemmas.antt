-- The code of a color or a font is written in parameter bytes, and what is written sets that color or font.
use Rattle.ansi_style.proofs.Common.{◌≡◌, ℕ, suc, ◌+◌, ◌-◌, ◌<◌, Bool, true, false, cond, not, ◌&&◌, ◌==◌, nat_eq, nat_lt, List, [], ◌∷◌, ◌++◌, take, drop, length, Option, Some, None, refl, sym, ◌∙◌, ap, ap₂, arith, codes, decimal, IsTrue, length-append, bytes_eq, append_assoc, true≢false, agree_below_at, and_parts, and_from, eqb-true, ltb-true, cond-true, not-true, nat_tests, take-append_seam, drop-append_seam, list_all-append, AllPass-from_list_all, slice_split_at, slice_split_none, digits, is_in_range, list_all, ends_with, All, slice_index_or, option_map_or, byte, AnsiColor, Bit4, Bit8, Bit24, is_parameter_byte, sgr_parameters, are_private, Rendition, is_extended_color, is_foreground, is_background, Changes, ReadsColor, color_number, code_of, is_code, effect_of_code, fields_of, effect_of, apply, color_code, written}
use Rattle.ansi_style.proofs.CodeLemmas.{in_range, effect_of_code-font, effect_of_code-foreground, effect_of_code-background}
use Rattle.ansi_style.proofs.StateLemmas.{apply-parameters, after_fields-step}

-- What tests of ranges say.

and-three_bytes : (r g b : ℕ) → (nat_lt r 256 && (nat_lt g 256 && nat_lt b 256)) ≡ true → (r < 256) × (g < 256) × (b < 256)
and-three_bytes r g b h = grind arith

-- The bytes of a number.

-- a byte of a written code: a digit, `:` or `;`
abbrev pub is_code_byte : ℕ → Bool
is_code_byte b = is_in_range 0x30 0x3B b

-- one that ends no field
abbrev is_field_byte : ℕ → Bool
is_field_byte b = is_code_byte b && not (b == byte ";")

-- numbers of at most 255, by computation
field_bytes-decimal : (n : ℕ) → n < 256 → list_all is_field_byte (decimal n) ≡ true
unfolding digits
field_bytes-decimal n small = agree_below_at (λ n. list_all is_field_byte (decimal n)) (λ _. true) 256 n refl small

color_number-decimal : (n : ℕ) → n < 256 → color_number (decimal n) ≡ n
unfolding digits
color_number-decimal n small = eqb-true (color_number (decimal n)) n (agree_below_at (λ n. color_number (decimal n) == n) (λ _. true) 256 n refl small)

is_code_byte-field : (d : List ℕ) → list_all is_field_byte d ≡ true → list_all is_code_byte d ≡ true
is_code_byte-field [] all = refl
is_code_byte-field (b ∷ d) all =
    let both = and_parts (is_field_byte b) (list_all is_field_byte d) all in
    and_from _ _ (and_parts (is_code_byte b) (not (b == byte ";")) both.0).0 (is_code_byte-field d both.1)

pub code_bytes-decimal : (n : ℕ) → n < 256 → list_all is_code_byte (decimal n) ≡ true
code_bytes-decimal n small = is_code_byte-field (decimal n) (field_bytes-decimal n small)

-- the numbers of a color are at most 255
abbrev pub IsByteColor : AnsiColor → Type 0
IsByteColor (Bit4 n) = n < 256
IsByteColor (Bit8 n) = n < 256
IsByteColor (Bit24 r g b) = (r < 256) × (g < 256) × (b < 256)

pub parameters-color_code : (extended : List ℕ) (c : AnsiColor) → list_all is_code_byte extended ≡ true → IsByteColor c → list_all is_code_byte (color_code extended c) ≡ true
parameters-color_code extended c all small = grind (arith, code_bytes-decimal, list_all-append)

-- Fields that semicolons end.

field-no_semicolon : (d : List ℕ) → list_all is_field_byte d ≡ true → All (λ b. (b == byte ";") ≡ false) d
field-no_semicolon d all =
    λ k x below. (let b = slice_index_or d k x in not-true (b == byte ";") (and_parts (is_code_byte b) (not (b == byte ";")) (AllPass-from_list_all is_field_byte d all k x below)).1)

fields_of-one : (d : List ℕ) → list_all is_field_byte d ≡ true → fields_of d ≡ d ∷ []
fields_of-one d all = slice_split_none (λ b. b == byte ";") d (field-no_semicolon d all)

fields_of-more : (d rest : List ℕ) → list_all is_field_byte d ≡ true → fields_of (d ++ (byte ";" ∷ rest)) ≡ d ∷ fields_of rest
fields_of-more d rest all = slice_split_at (λ b. b == byte ";") d (byte ";") rest (field-no_semicolon d all) refl

fields_of-by_number : (extended : List ℕ) (n : ℕ) → list_all is_field_byte extended ≡ true → n < 256 → fields_of (color_code extended (Bit8 n)) ≡ extended ∷ codes "5" ∷ decimal n ∷ []
fields_of-by_number extended n all small =
    simp (append_assoc, fields_of-more) (ap (λ fs. extended ∷ codes "5" ∷ fs) (fields_of-one (decimal n) (field_bytes-decimal n small)))

fields_of-by_parts : (extended : List ℕ) (r g b : ℕ) → list_all is_field_byte extended ≡ true → r < 256 → g < 256 → b < 256
    → fields_of (color_code extended (Bit24 r g b)) ≡ extended ∷ codes "2" ∷ decimal r ∷ decimal g ∷ decimal b ∷ []
fields_of-by_parts extended r g b all hr hg hb =
    simp (append_assoc, fields_of-more, fields_of-one, field_bytes-decimal r hr, field_bytes-decimal g hg, field_bytes-decimal b hb)

-- What is written for a code is an SGR.

pub is_parameter_byte-code : (d : List ℕ) → list_all is_code_byte d ≡ true → list_all is_parameter_byte d ≡ true
is_parameter_byte-code [] all = refl
is_parameter_byte-code (b ∷ d) all =
    let both = and_parts (is_code_byte b) (list_all is_code_byte d) all in
    and_from _ _ (parameter_byte b both.0) (is_parameter_byte-code d both.1)
  where
    parameter_byte : (b : ℕ) → is_code_byte b ≡ true → is_parameter_byte b ≡ true
    parameter_byte b is = grind (arith, nat_tests)

are_private-code : (d : List ℕ) → list_all is_code_byte d ≡ true → are_private d ≡ false
are_private-code d all = grind arith

pub sgr_parameters-written : (code : List ℕ) → list_all is_code_byte code ≡ true → sgr_parameters (written code) ≡ Some code
sgr_parameters-written code all =
    let w = written code in
    let tail : List ℕ = code ++ (byte "m" ∷ []) in
    let len : length tail ≡ length code + 1 = length-append code (byte "m" ∷ []) in
    let middle : take (length w - 1 - 2) tail ≡ code
    = (let count : length w - 1 - 2 ≡ length code = omega (arith, len) in ap (λ n. take n tail) count ∙ take-append_seam code (byte "m" ∷ [])) in
    let last : ends_with nat_eq w (codes "m") ≡ true
    = (let count : length w - 1 ≡ suc (suc (length code)) = omega (arith, len) in
    ap (λ n. bytes_eq (codes "m") (drop n w)) count ∙ ap (bytes_eq (codes "m")) (drop-append_seam code (byte "m" ∷ []))) in
    ap₂ (λ (e : Bool) (v : List ℕ). cond (true && e && list_all is_parameter_byte v && not (are_private v)) (Some v) None) last middle
    ∙ cond-true (list_all is_parameter_byte code && not (are_private code)) (Some code) None (and_from _ _ (is_parameter_byte-code code all) (ap not (are_private-code code all)))

-- the effect of an extended color's code, if the code before it reads a color
apply-extended : (extended : List ℕ) (put : AnsiColor → Rendition → Rendition) (c : AnsiColor) (p : Rendition)
    → list_all is_field_byte extended ≡ true → effect_of extended ≡ ReadsColor put → IsTrue (is_extended_color c) → apply p (written (color_code extended c)) ≡ put c p
apply-extended extended put c p all reads is = grind (arith, after_fields-step, apply-parameters, is_code_byte-field, color_number-decimal, fields_of-by_number, fields_of-by_parts, ltb-true, parameters-color_code, sgr_parameters-written, and-three_bytes, true≢false)

-- The numbers of colors in their ranges.

pub IsByteColor-extended : (c : AnsiColor) → IsTrue (is_extended_color c) → IsByteColor c
IsByteColor-extended c is = grind arith

pub IsByteColor-foreground : (c : AnsiColor) → IsTrue (is_foreground c) → IsByteColor c
IsByteColor-foreground c is = grind arith

pub IsByteColor-background : (c : AnsiColor) → IsTrue (is_background c) → IsByteColor c
IsByteColor-background c is = grind arith

-- What is written for a color or a font sets it.

code_of-decimal : (n : ℕ) → n < 256 → code_of (decimal n) ≡ Some n
unfolding digits
code_of-decimal n small = some_same (code_of (decimal n)) (agree_below_at (λ n. is_code n (decimal n)) (λ _. true) 256 n refl small)
  where
    some_same : (o : Option ℕ) → option_map_or (λ m. m == n) o false ≡ true → o ≡ Some n
    some_same None same = absurd (true≢false (sym same))
    some_same (Some m) same = ap Some (eqb-true m n same)

-- the number of a code, written alone, does what the code does
apply-decimal : (n : ℕ) (change : Rendition → Rendition) (p : Rendition) → n < 256 → effect_of_code n ≡ Changes change → apply p (written (decimal n)) ≡ change p
apply-decimal n change p small is = grind (arith, apply-parameters, code_bytes-decimal, code_of-decimal, field_bytes-decimal, fields_of-one, sgr_parameters-written)

pub apply-font : (n : ℕ) → is_in_range 11 19 n ≡ true → (p : Rendition) → apply p (written (decimal n)) ≡ record p { font = Some n }
apply-font n is p = apply-decimal n (λ s. record s { font = Some n }) p (omega (arith, (in_range 11 19 n is).1)) (effect_of_code-font n is)

pub apply-foreground : (c : AnsiColor) → IsTrue (is_foreground c) → (p : Rendition) → apply p (written (color_code (codes "38") c)) ≡ record p { foreground = Some c }
apply-foreground (Bit4 n) is p = apply-decimal n (λ s. record s { foreground = Some (Bit4 n) }) p (IsByteColor-foreground (Bit4 n) is) (effect_of_code-foreground n is)
apply-foreground (Bit8 n) is p = apply-extended (codes "38") (λ c s. record s { foreground = Some c }) (Bit8 n) p refl refl is
apply-foreground (Bit24 r g b) is p = apply-extended (codes "38") (λ c s. record s { foreground = Some c }) (Bit24 r g b) p refl refl is

pub apply-background : (c : AnsiColor) → IsTrue (is_background c) → (p : Rendition) → apply p (written (color_code (codes "48") c)) ≡ record p { background = Some c }
apply-background (Bit4 n) is p = apply-decimal n (λ s. record s { background = Some (Bit4 n) }) p (IsByteColor-background (Bit4 n) is) (effect_of_code-background n is)
apply-background (Bit8 n) is p = apply-extended (codes "48") (λ c s. record s { background = Some c }) (Bit8 n) p refl refl is
apply-background (Bit24 r g b) is p = apply-extended (codes "48") (λ c s. record s { background = Some c }) (Bit24 r g b) p refl refl is

pub apply-underline_color : (c : AnsiColor) → IsTrue (is_extended_color c) → (p : Rendition) → apply p (written (color_code (codes "58") c)) ≡ record p { underline_color = Some c }
apply-underline_color c is p = apply-extended (codes "58") (λ c s. record s { underline_color = Some c }) c p refl refl is
