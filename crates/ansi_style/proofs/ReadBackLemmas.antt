-- What is written for codes: how long it is, its pieces, and what it does to a style.
use Rattle.ansi_style.proofs.Common.{◌≡◌, ℕ, ◌+◌, ◌<◌, ◌≤◌, inl, Bool, true, false, not, ◌||◌, List, [], ◌∷◌, ◌++◌, length, map, fold, Option, Some, None, refl, sym, ◌∙◌, ap, arith, codes, decimal, IsTrue, IfSome, length-append, append-nil, and-true, or-true, and_from, and_parts, length-decimal-le, flat_map-append, map-append, list_all-append, fold-append, IfSome_then, is_in_range, list_all, byte, AnsiColor, escape, IsSequence, Piece, Sequence, Rendition, IsStyle, apply_all, apply, written, written_all, code_if, color_code, color_codes, font_codes, start_codes, close_codes, longest_start, longest_close, style_after_from, spelled, AllStandAnywhere}
use Rattle.ansi_style.proofs.StyledLemmas.{style_through, styled_through}
use Rattle.ansi_style.proofs.SpelledLemmas.{style_after_from-spelled}
use Rattle.ansi_style.proofs.CodeLemmas.{in_range}
use Rattle.ansi_style.proofs.ColorLemmas.{is_code_byte, is_parameter_byte-code, IsByteColor, parameters-color_code, code_bytes-decimal, IsByteColor-foreground, IsByteColor-background, IsByteColor-extended}

-- The style after codes.

abbrev pub apply_codes : Rendition → List (List ℕ) → Rendition
apply_codes s xs = apply_all s (map written xs)

pub apply_codes-append : (s : Rendition) (xs ys : List (List ℕ)) → apply_codes s (xs ++ ys) ≡ apply_codes (apply_codes s xs) ys
apply_codes-append s xs ys = ap (fold apply s) (map-append written xs ys) ∙ fold-append apply s (map written xs) (map written ys)

-- Codes are written with digits and semicolons, and are short.

-- each code has bytes of codes alone, and what is written for all of them has at most n bytes
pub record AreCodes (xs : List (List ℕ)) (n : ℕ) : Type 0 where
  pub each : list_all (list_all is_code_byte) xs ≡ true
  pub short : length (written_all xs) ≤ n

length-written : (code : List ℕ) → length (written_all (code ∷ [])) ≡ length code + 3
length-written code = simp length-append (omega arith)

AreCodes-one : (code : List ℕ) (n : ℕ) → list_all is_code_byte code ≡ true → length code + 3 ≤ n → AreCodes (code ∷ []) n
AreCodes-one code n all short = record { each = and_from _ _ all refl; short = omega (arith, length-written code, short) }

AreCodes-nil : (n : ℕ) → AreCodes [] n
AreCodes-nil n = record { each = refl; short = omega arith }

each-code_if : (b : Bool) (code : List ℕ) → list_all (list_all is_code_byte) (code_if b code) ≡ (not b || list_all is_code_byte code)
each-code_if true code = and-true (list_all is_code_byte code)
each-code_if false code = refl

length-code_if : (b : Bool) (code : List ℕ) → length (written_all (code_if b code)) ≤ length code + 3
length-code_if true code = omega (arith, length-written code)
length-code_if false code = omega arith

-- a number of at most 255 has at most three digits
length-byte : (n : ℕ) → n < 256 → length (decimal n) ≤ 3
length-byte n small = length-decimal-le 3 n (omega arith) (omega (arith, small)) (omega (arith, small))

-- the longest color has an extended code of two digits, `;2;`, and three numbers of three digits with a `;` between: 16 bytes
length-color_code : (extended : List ℕ) (c : AnsiColor) → length extended ≡ 2 → IsByteColor c → length (color_code extended c) ≤ 16
length-color_code extended c two small = grind (arith, length-append, length-byte)

color_code_of : (extended : List ℕ) (o : Option AnsiColor) → list_all is_code_byte extended ≡ true → length extended ≡ 2 → IfSome o IsByteColor → AreCodes (color_codes extended o) 19
color_code_of extended None all two is = AreCodes-nil 19
color_code_of extended (Some c) all two is =
    AreCodes-one (color_code extended c) 19 (parameters-color_code extended c all is) (omega (arith, length-color_code extended c two is))

font_code_of : (o : Option ℕ) → IfSome o (λ n. IsTrue (is_in_range 11 19 n)) → AreCodes (font_codes o) 5
font_code_of None is = AreCodes-nil 5
font_code_of (Some n) is =
    let bounds = in_range 11 19 n is in
    let short : length (decimal n) ≤ 2 = length-decimal-le 2 n (omega arith) (omega (arith, bounds.1)) (omega (arith, bounds.1)) in
    AreCodes-one (decimal n) 5 (code_bytes-decimal n (omega (arith, bounds.1))) (omega (arith, short))

-- 9 codes of one digit, a font, 13 codes of two, and three colors: 9 · 4 + 5 + 13 · 5 + 3 · 19
pub start_codes_are : (s : Rendition) → IsStyle s → AreCodes (start_codes s) longest_start
start_codes_are s is =
    let font = font_code_of s.font is.font in
    let foreground = color_code_of (codes "38") s.foreground refl refl (IfSome_then s.foreground is.foreground IsByteColor-foreground) in
    let background = color_code_of (codes "48") s.background refl refl (IfSome_then s.background is.background IsByteColor-background) in
    let underline_color = color_code_of (codes "58") s.underline_color refl refl (IfSome_then s.underline_color is.underline_color IsByteColor-extended) in
    record {
      each = simp (list_all-append, each-code_if, or-true, font.each, foreground.each, background.each, underline_color.each);
      short = simp (flat_map-append, length-append) (omega (arith, length-code_if, font.short, foreground.short, background.short, underline_color.short));
    }

-- 2 codes of one digit and 16 of two: 2 · 4 + 16 · 5
pub close_codes_are : (s : Rendition) → AreCodes (close_codes s) longest_close
close_codes_are s = record {
  each = simp (list_all-append, each-code_if, or-true);
  short = simp (flat_map-append, length-append) (omega (arith, length-code_if));
}

-- The pieces of what is written are the sequences of the codes.

abbrev pub code_pieces : List (List ℕ) → List Piece
code_pieces xs = map (λ code. Sequence (written code)) xs

pub spelled-code_pieces : (xs : List (List ℕ)) → spelled (code_pieces xs) ≡ written_all xs
spelled-code_pieces [] = refl
spelled-code_pieces (x ∷ xs) = ap (λ w. written x ++ w) (spelled-code_pieces xs)

written_is_sequence : (code : List ℕ) → list_all is_code_byte code ≡ true → IsSequence (written code)
written_is_sequence code all = inl (record {
  parameters = code;
  intermediates = [];
  final = byte "m";
  spelled = ap (λ v. escape ∷ byte "[" ∷ (v ++ (byte "m" ∷ []))) (sym (append-nil code));
  are_parameters = is_parameter_byte-code code all;
  are_intermediates = refl;
  is_final = refl;
})

pub code_pieces_stand : {n : ℕ} (xs : List (List ℕ)) → AreCodes xs n → AllStandAnywhere (code_pieces xs)
code_pieces_stand xs are = by_each xs are.each
  where
    by_each : (xs : List (List ℕ)) → list_all (list_all is_code_byte) xs ≡ true → AllStandAnywhere (code_pieces xs)
    by_each [] each = tt
    by_each (x ∷ xs) each =
        let both = and_parts (list_all is_code_byte x) (list_all (list_all is_code_byte) xs) each in
        (written_is_sequence x both.0, by_each xs both.1)

pub style_through-codes : (p : Rendition) (xs : List (List ℕ)) → style_through p (code_pieces xs) ≡ apply_codes p xs
style_through-codes p [] = refl
style_through-codes p (x ∷ xs) = style_through-codes (apply p (written x)) xs

pub styled_through-codes : (p : Rendition) (xs : List (List ℕ)) → styled_through p (code_pieces xs) ≡ []
styled_through-codes p [] = refl
styled_through-codes p (x ∷ xs) = styled_through-codes (apply p (written x)) xs

-- what is written for codes, read from p, does what the codes do
pub style_after_from-codes : {n : ℕ} (p : Rendition) (xs : List (List ℕ)) → AreCodes xs n → style_after_from p (written_all xs) ≡ apply_codes p xs
style_after_from-codes p xs are =
    ap (style_after_from p) (sym (spelled-code_pieces xs)) ∙ style_after_from-spelled p (code_pieces xs) (code_pieces_stand xs are) ∙ style_through-codes p xs

-- The codes lead from the style q to the style p.

pub record LeadFrom (q : Rendition) (xs : List (List ℕ)) (p : Rendition) : Type 0 where
  pub reached : apply_codes q xs ≡ p

pub LeadFrom-apply_codes : {q : Rendition} {xs : List (List ℕ)} {p : Rendition} (ys : List (List ℕ)) → LeadFrom q xs p → apply_codes q (xs ++ ys) ≡ apply_codes p ys
LeadFrom-apply_codes {q} {xs} ys so_far = apply_codes-append q xs ys ∙ ap (λ s. apply_codes s ys) so_far.reached

-- more codes
pub LeadFrom-append : {q : Rendition} {xs : List (List ℕ)} {p : Rendition} (ys : List (List ℕ)) (r : Rendition) → apply_codes p ys ≡ r → LeadFrom q xs p → LeadFrom q (xs ++ ys) r
LeadFrom-append ys r next so_far = record { reached = LeadFrom-apply_codes ys so_far ∙ next }

-- one step, and then the next
pub ◌next◌ : {A B : Type 0} → A → (A → B) → B
x next f = f x

infixl 30 ◌next◌
-- one more code, if the condition holds
pub LeadFrom-if : {q : Rendition} {xs : List (List ℕ)} {p : Rendition} (b : Bool) (code : List ℕ) (r : Rendition)
    → (b ≡ true → apply p (written code) ≡ r) → (b ≡ false → p ≡ r) → LeadFrom q xs p → LeadFrom q (xs ++ code_if b code) r
LeadFrom-if {q} {xs} {p} b code r set unset so_far = LeadFrom-append (code_if b code) r (by_test b set unset) so_far
  where
    by_test : (b : Bool) → (b ≡ true → apply p (written code) ≡ r) → (b ≡ false → p ≡ r) → apply_codes p (code_if b code) ≡ r
    by_test true set unset = set refl
    by_test false set unset = unset refl
