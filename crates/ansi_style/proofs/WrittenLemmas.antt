-- What the code writes for a start and a close, row by row, as the definitions have it.
use Rattle.ansi_style.proofs.Common.{◌≡◌, ℕ, Bool, true, false, List, [], ◌∷◌, ◌++◌, ◌&&◌, ◌||◌, ◌==◌, ◌+◌, ◌^◌, not, is_some, codes, refl, sym, ◌∙◌, ap, ap₂, append_assoc, append-nil, bit_and, nat_lt, if◌then◌else◌, or-false, flat_map-append, and_assoc, flat_map, Style, Attributes, INTENSITY, LETTERS, SHAPES, FRAMES, ENDS, IDEOGRAM, RARE, START_INTENSITY, START_LETTERS, START_SHAPES, START_FRAMES, CLOSE_LETTERS, CLOSE_FRAMES, CLOSE_ENDS, has, has_one, not-not, eqb-true, None, Option, Some, true≢false, rendition_of, written, written_all, code_if, color_codes, font_codes, start_codes, close_codes, start, close}
use Rattle.ansi_style.specs.Numbers.{color_of_numbers, font_of_word}
use Rattle.ansi_style.proofs.BitsLemmas.{has_one-places, has_one_in_last}

-- Whether a set has one of some attributes.

-- the attributes of a group, if these are in it
of_group : (set group attributes : ℕ) → bit_and group attributes ≡ attributes → nat_lt attributes (2 ^ 24) ≡ true
    → has_one (bit_and set group) attributes ≡ has_one_in_last set attributes 24
of_group set group attributes inside below =
    ap (λ m. not (m == 0)) (and_assoc attributes set group ∙ ap (bit_and set) inside) ∙ has_one-places set attributes below

-- the attribute at a place
has_one-at_place : (set group k : ℕ) → bit_and group (2 ^ k) ≡ 2 ^ k → nat_lt (2 ^ k) (2 ^ 24) ≡ true → has_one_in_last set (2 ^ k) 24 ≡ (has set k || false)
    → has_one (bit_and set group) (2 ^ k) ≡ has set k
has_one-at_place set group k inside below place = of_group set group (2 ^ k) inside below ∙ place ∙ or-false (has set k)

-- those at two places
has_one-at_two_places : (set group j k : ℕ) → bit_and group (2 ^ j + 2 ^ k) ≡ 2 ^ j + 2 ^ k → nat_lt (2 ^ j + 2 ^ k) (2 ^ 24) ≡ true
    → has_one_in_last set (2 ^ j + 2 ^ k) 24 ≡ (has set j || (has set k || false)) → has_one (bit_and set group) (2 ^ j + 2 ^ k) ≡ (has set j || has set k)
has_one-at_two_places set group j k inside below places = of_group set group (2 ^ j + 2 ^ k) inside below ∙ places ∙ ap (λ b. has set j || b) (or-false (has set k))

-- What is written, code by code.

abbrev written_if : Bool → List ℕ → List ℕ
written_if b sequence = if b then sequence else []

written_code_if : (b : Bool) (code : List ℕ) (xs : List (List ℕ)) → written_if b (written code) ++ written_all xs ≡ written_all (code_if b code ++ xs)
written_code_if true code xs = refl
written_code_if false code xs = refl

abbrev codes_joined : List (List (List ℕ)) → List (List ℕ)
codes_joined = flat_map (λ codes. codes)

-- what is left to write, of a group of rows and after it, is what is written for these codes
record Writes (rows rest : List ℕ) (all : List (List (List ℕ))) : Type 0 where
  pub is : rows ++ rest ≡ written_all (codes_joined all)

Writes-nil : Writes [] [] []
Writes-nil = record { is = refl }

-- a code that is written if a test holds
Writes-code : {rest : List ℕ} {all : List (List (List ℕ))} {b c : Bool} (code : List ℕ) → c ≡ b → Writes [] rest all
    → Writes [] (written_if c (written code) ++ rest) (code_if b code ∷ all)
Writes-code {all = all} {b} code same later = record { is = ap₂ (λ c v. written_if c (written code) ++ v) same later.is ∙ written_code_if b code (codes_joined all) }

-- the same in a group of rows
Writes-row : {rows rest : List ℕ} {all : List (List (List ℕ))} {b c : Bool} (code : List ℕ) → c ≡ b → Writes rows rest all
    → Writes (written_if c (written code) ++ rows) rest (code_if b code ∷ all)
Writes-row {rows} {rest} {all} {b} {c} code same later = record {
  is = append_assoc (written_if c (written code)) rows rest ∙ ap₂ (λ c v. written_if c (written code) ++ v) same later.is ∙ written_code_if b code (codes_joined all);
}

-- a group of rows, and the last one
Writes-group : {rows rest : List ℕ} {all : List (List (List ℕ))} → Writes rows rest all → Writes [] (rows ++ rest) all
Writes-group later = record { is = later.is }

last_group : {rows : List ℕ} {all : List (List (List ℕ))} → Writes rows [] all → Writes [] rows all
last_group {rows} later = record { is = sym (append-nil rows) ∙ later.is }

-- codes that are written unchanged
Writes-codes : {rest : List ℕ} {all : List (List (List ℕ))} (cs : List (List ℕ)) → Writes [] rest all → Writes [] (written_all cs ++ rest) (cs ∷ all)
Writes-codes {all = all} cs later = record { is = ap (λ v. written_all cs ++ v) later.is ∙ sym (flat_map-append written cs (codes_joined all)) }

Writes-three : {rest : List ℕ} {all : List (List (List ℕ))} (a b c : List (List ℕ)) → Writes [] rest all → Writes [] (written_all (a ++ b ++ c) ++ rest) (a ∷ b ∷ c ∷ all)
Writes-three {all = all} a b c later = record {
  is = (Writes-codes (a ++ b ++ c) later).is ∙ ap written_all (append_assoc (a ++ b) c (codes_joined all) ∙ append_assoc a b (c ++ codes_joined all));
}

-- codes that are joined from the left
abbrev codes_joined_after : List (List ℕ) → List (List (List ℕ)) → List (List ℕ)
codes_joined_after xs [] = xs
codes_joined_after xs (w ∷ all) = codes_joined_after (xs ++ w) all

codes_joined_after-joined : (xs : List (List ℕ)) (all : List (List (List ℕ))) → xs ++ codes_joined all ≡ codes_joined_after xs all
codes_joined_after-joined xs [] = append-nil xs
codes_joined_after-joined xs (w ∷ all) = sym (append_assoc xs w (codes_joined all)) ∙ codes_joined_after-joined (xs ++ w) all

all_written : {w : List ℕ} {all : List (List (List ℕ))} → Writes [] w all → (xs : List (List ℕ)) → codes_joined_after [] all ≡ xs → w ≡ written_all xs
all_written {all = all} writes xs same = writes.is ∙ ap written_all (codes_joined_after-joined [] all ∙ same)

-- a step, and those after it
◌before◌ : {A B : Type 0} → (A → B) → A → B
f before x = f x

infixr 30 ◌before◌
-- the output for the rows that have an attribute which is in the set and in the group
abbrev written_rows : {T : Type 0} → Attributes → Attributes → List (Attributes × T) → (T → List ℕ) → List ℕ
written_rows set group rows text = flat_map (λ row. if has_one (bit_and set.0 group.0) row.0.0 then text row.1 else []) rows

pub start_by_rows : (s : Style) →
    written_rows s.attributes INTENSITY START_INTENSITY.now (λ w. w.now)
    ++ (written_rows s.attributes LETTERS START_LETTERS.now (λ w. w.now)
    ++ (written_all (font_codes (font_of_word s.attributes.0))
    ++ (written_rows s.attributes SHAPES START_SHAPES.now (λ w. w.now)
    ++ (written_all (color_codes (codes "38") (color_of_numbers s.foreground) ++ color_codes (codes "48") (color_of_numbers s.background) ++ color_codes (codes "58") (color_of_numbers s.underline_color))
    ++ written_rows s.attributes FRAMES START_FRAMES.now (λ w. w.now)))))
    ≡ start (rendition_of s)
unfolding rendition_of
start_by_rows s =
    let n = s.attributes.0 in
    all_written
    (Writes-group
    before Writes-row (codes "1") (has_one-at_place n INTENSITY.0 0 refl refl refl)
    before Writes-row (codes "2") (has_one-at_place n INTENSITY.0 1 refl refl refl)
    before Writes-group
    before Writes-row (codes "3") (has_one-at_place n LETTERS.0 2 refl refl refl)
    before Writes-row (codes "4") (has_one-at_place n LETTERS.0 3 refl refl refl)
    before Writes-row (codes "5") (has_one-at_place n LETTERS.0 5 refl refl refl)
    before Writes-row (codes "6") (has_one-at_place n LETTERS.0 6 refl refl refl)
    before Writes-row (codes "7") (has_one-at_place n LETTERS.0 7 refl refl refl)
    before Writes-row (codes "8") (has_one-at_place n LETTERS.0 8 refl refl refl)
    before Writes-row (codes "9") (has_one-at_place n LETTERS.0 9 refl refl refl)
    before Writes-codes (font_codes (font_of_word s.attributes.0))
    before Writes-group
    before Writes-row (codes "20") (has_one-at_place n SHAPES.0 12 refl refl refl)
    before Writes-row (codes "21") (has_one-at_place n SHAPES.0 4 refl refl refl)
    before Writes-row (codes "26") (has_one-at_place n SHAPES.0 13 refl refl refl)
    before Writes-three (color_codes (codes "38") (color_of_numbers s.foreground)) (color_codes (codes "48") (color_of_numbers s.background)) (color_codes (codes "58") (color_of_numbers s.underline_color))
    before last_group
    before Writes-row (codes "51") (has_one-at_place n FRAMES.0 10 refl refl refl)
    before Writes-row (codes "52") (has_one-at_place n FRAMES.0 11 refl refl refl)
    before Writes-row (codes "53") (has_one-at_place n FRAMES.0 14 refl refl refl)
    before Writes-row (codes "60") (has_one-at_place n FRAMES.0 15 refl refl refl)
    before Writes-row (codes "61") (has_one-at_place n FRAMES.0 16 refl refl refl)
    before Writes-row (codes "62") (has_one-at_place n FRAMES.0 17 refl refl refl)
    before Writes-row (codes "63") (has_one-at_place n FRAMES.0 18 refl refl refl)
    before Writes-row (codes "64") (has_one-at_place n FRAMES.0 19 refl refl refl)
    before Writes-row (codes "73") (has_one-at_place n FRAMES.0 20 refl refl refl)
    before Writes-row (codes "74") (has_one-at_place n FRAMES.0 21 refl refl refl)
    before Writes-nil)
    (start_codes (rendition_of s)) refl

pub close_by_rows : (s : Style) →
    written_if (has s.attributes.0 23 && has s.attributes.0 22) (codes "\u{1b}[0m")
    ++ (written_if (is_some (font_of_word s.attributes.0)) (codes "\u{1b}[10m")
    ++ (written_if (has_one s.attributes.0 INTENSITY.0) (codes "\u{1b}[22m")
    ++ (written_rows s.attributes LETTERS CLOSE_LETTERS.now (λ w. w.now)
    ++ (written_if (is_some (color_of_numbers s.foreground)) (codes "\u{1b}[39m")
    ++ (written_if (is_some (color_of_numbers s.background)) (codes "\u{1b}[49m")
    ++ (written_rows s.attributes FRAMES CLOSE_FRAMES.now (λ w. w.now)
    ++ (written_if (is_some (color_of_numbers s.underline_color)) (codes "\u{1b}[59m")
    ++ written_rows s.attributes ENDS CLOSE_ENDS.now (λ w. w.now))))))))
    ≡ close (rendition_of s)
unfolding rendition_of
close_by_rows s =
    let n = s.attributes.0 in
    all_written
    (Writes-code (codes "0") refl
    before Writes-code (codes "10") refl
    before Writes-code (codes "22") (has_one-places n INTENSITY.0 refl ∙ ap (λ b. has n 0 || b) (or-false (has n 1)))
    before Writes-group
    before Writes-row (codes "23") (has_one-at_two_places n LETTERS.0 2 12 refl refl refl)
    before Writes-row (codes "24") (has_one-at_two_places n LETTERS.0 3 4 refl refl refl)
    before Writes-row (codes "25") (has_one-at_two_places n LETTERS.0 5 6 refl refl refl)
    before Writes-row (codes "27") (has_one-at_place n LETTERS.0 7 refl refl refl)
    before Writes-row (codes "28") (has_one-at_place n LETTERS.0 8 refl refl refl)
    before Writes-row (codes "29") (has_one-at_place n LETTERS.0 9 refl refl refl)
    before Writes-code (codes "39") refl
    before Writes-code (codes "49") refl
    before Writes-group
    before Writes-row (codes "50") (has_one-at_place n FRAMES.0 13 refl refl refl)
    before Writes-row (codes "54") (has_one-at_two_places n FRAMES.0 10 11 refl refl refl)
    before Writes-row (codes "55") (has_one-at_place n FRAMES.0 14 refl refl refl)
    before Writes-row (codes "65") (of_group n FRAMES.0 IDEOGRAM.0 refl refl)
    before Writes-code (codes "59") refl
    before last_group
    before Writes-row (codes "75") (has_one-at_two_places n ENDS.0 20 21 refl refl refl)
    before Writes-row (codes "0") (has_one-at_place n ENDS.0 23 refl refl refl)
    before Writes-nil)
    (close_codes (rendition_of s)) refl

-- A style without a font in which at most intensity, colors, `reset` and an unknown code are set.

no_some : {A : Type 0} (o : Option A) → is_some o ≡ false → o ≡ None
no_some None unset = refl
no_some (Some x) unset = absurd (true≢false unset)

-- the set has none of these attributes
none_of : (set attributes : ℕ) → has_one set RARE.0 ≡ false → bit_and RARE.0 attributes ≡ attributes → bit_and set attributes ≡ 0
none_of set attributes unset inside =
    let none : bit_and set RARE.0 ≡ 0 = eqb-true (bit_and set RARE.0) 0 (sym (not-not (bit_and set RARE.0 == 0)) ∙ ap not unset) in
    sym (and_assoc attributes set RARE.0 ∙ ap (bit_and set) inside) ∙ ap (λ n. bit_and n attributes) none

pub start_of_common : (s : Style) → is_some (font_of_word s.attributes.0) ≡ false → has_one s.attributes.0 RARE.0 ≡ false →
    written_rows s.attributes INTENSITY START_INTENSITY.now (λ w. w.now)
    ++ written_all (color_codes (codes "38") (color_of_numbers s.foreground) ++ color_codes (codes "48") (color_of_numbers s.background) ++ color_codes (codes "58") (color_of_numbers s.underline_color))
    ≡ start (rendition_of s)
start_of_common s no_font unset =
    let n = s.attributes.0 in
    let colors = written_all (color_codes (codes "38") (color_of_numbers s.foreground) ++ color_codes (codes "48") (color_of_numbers s.background) ++ color_codes (codes "58") (color_of_numbers s.underline_color)) in
    rw (none_of n LETTERS.0 unset refl, no_some (font_of_word n) no_font, none_of n SHAPES.0 unset refl, none_of n FRAMES.0 unset refl, append-nil colors) at (start_by_rows s)

pub close_of_common : (s : Style) → is_some (font_of_word s.attributes.0) ≡ false → has_one s.attributes.0 RARE.0 ≡ false →
    written_if (has s.attributes.0 23 && has s.attributes.0 22) (codes "\u{1b}[0m")
    ++ (written_if (has_one s.attributes.0 INTENSITY.0) (codes "\u{1b}[22m")
    ++ (written_if (is_some (color_of_numbers s.foreground)) (codes "\u{1b}[39m")
    ++ (written_if (is_some (color_of_numbers s.background)) (codes "\u{1b}[49m")
    ++ (written_if (is_some (color_of_numbers s.underline_color)) (codes "\u{1b}[59m")
    ++ written_rows s.attributes ENDS CLOSE_ENDS.now (λ w. w.now)))))
    ≡ close (rendition_of s)
close_of_common s no_font unset =
    let n = s.attributes.0 in
    rw (no_font, none_of n LETTERS.0 unset refl, none_of n FRAMES.0 unset refl) at (close_by_rows s)
