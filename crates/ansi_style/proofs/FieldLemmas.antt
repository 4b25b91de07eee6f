-- The fields of parameter bytes, one after another, and the numbers that they are.
use Rattle.ansi_style.proofs.Common.{◌≡◌, ◌≢◌, ℕ, zero, suc, ◌+◌, ◌-◌, ◌*◌, ◌<◌, ◌≤◌, Bool, true, ◌&&◌, ◌==◌, List, [], ◌∷◌, length, take, drop, get_or, fold, refl, sym, ◌∙◌, ap, ap₂, arith, Option, Some, None, if◌then◌else◌, nat_le, unwrap_or, onto_first, digit_value, is_ascii_digit, byte, all_ascii_digits, digits_value_after, cond_both, and_parts, leb-true, lt-ltb, ne_eqb, eq-eqb, nat_tests, slice_split-cons_yes, slice_split-cons_no, digit_value_digit, fields_of, code_of, color_number, first_field, with_digit}

-- a field that a semicolon ends, and those after it
pub fields_of-cut : (t : List ℕ) (i : ℕ) → i < length t → get_or t i 0 ≡ byte ";" → ((k : ℕ) → k < i → get_or t k 0 ≢ byte ";") → fields_of t ≡ take i t ∷ fields_of (drop (suc i) t)
fields_of-cut [] i within is none = absurd (omega arith)
fields_of-cut (b ∷ t) zero within is none = slice_split-cons_yes (λ b. b == byte ";") b t (eq-eqb b (byte ";") is)
fields_of-cut (b ∷ t) (suc i) within is none =
    slice_split-cons_no (λ b. b == byte ";") b t (ne_eqb b (byte ";") (none 0 (omega arith)))
    ∙ ap (onto_first b) (fields_of-cut t i (omega arith) is (λ k below. none (suc k) (omega (arith, below))))

-- the last field
pub fields_of-uncut : (t : List ℕ) → ((k : ℕ) → k < length t → get_or t k 0 ≢ byte ";") → fields_of t ≡ t ∷ []
fields_of-uncut [] none = refl
fields_of-uncut (b ∷ t) none =
    slice_split-cons_no (λ b. b == byte ";") b t (ne_eqb b (byte ";") (none 0 (omega arith)))
    ∙ ap (onto_first b) (fields_of-uncut t (λ k below. none (suc k) (omega (arith, below))))

-- The number of digits is read digit by digit.

digits_value_after-ge : (t : List ℕ) (n : ℕ) → n ≤ digits_value_after 10 n t
digits_value_after-ge [] n = omega arith
digits_value_after-ge (b ∷ t) n = omega (arith, digits_value_after-ge t (n * 10 + digit_value b))

-- a number of digits alone that is at most 255
abbrev pub if_small : Bool → ℕ → Option ℕ
if_small are_digits n = if are_digits && nat_le n 255 then Some n else None

next_digit : (n b : ℕ) (t : List ℕ)
    → if_small (all_ascii_digits t) (digits_value_after 10 (with_digit n b) t) ≡ if_small (is_ascii_digit b && all_ascii_digits t) (digits_value_after 10 (n * 10 + digit_value b) t)
next_digit n b t =
    cond_both (is_ascii_digit b && nat_le n 255) (n * 10 + (b - 48)) 256
    (λ m. if_small (all_ascii_digits t) (digits_value_after 10 m t) ≡ if_small (is_ascii_digit b && all_ascii_digits t) (digits_value_after 10 (n * 10 + digit_value b) t))
    (λ is. (let digit = (and_parts (is_ascii_digit b) (nat_le n 255) is).0 in
    let bounds = and_parts (nat_le 48 b) (nat_le b 57) digit in
    let value : b - 48 ≡ digit_value b = omega (arith, digit_value_digit b (leb-true 48 b bounds.0, leb-true b 57 bounds.1)) in
    ap₂ (λ d v. if_small (d && all_ascii_digits t) (digits_value_after 10 (n * 10 + v) t)) (sym digit) value))
    (λ isnt. grind (arith, nat_tests, isnt, digits_value_after-ge t 256, digits_value_after-ge t (n * 10 + digit_value b)))

fold-with_digit : (t : List ℕ) (n : ℕ) → if_small true (fold with_digit n t) ≡ if_small (all_ascii_digits t) (digits_value_after 10 n t)
fold-with_digit [] n = refl
fold-with_digit (b ∷ t) n = fold-with_digit t (with_digit n b) ∙ next_digit n b t

-- so what is read of a field is its code
pub code_of-read : (t : List ℕ) → if_small true (fold with_digit 0 t) ≡ code_of t
code_of-read [] = refl
code_of-read (b ∷ t) = rw (lt-ltb 0 (length (b ∷ t)) (omega arith)) (fold-with_digit (b ∷ t) 0)

-- the number that a field gives to a color is its code, or 0 if it has none
pub number_is_first : (fields rest : List (List ℕ)) (code : Option ℕ) → (Some code, rest) ≡ first_field code_of fields → (Some (unwrap_or code 0), rest) ≡ first_field color_number fields
number_is_first fields rest code first = grind arith
