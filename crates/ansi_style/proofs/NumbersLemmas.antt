-- Styles as numbers.
use Rattle.ansi_style.proofs.Common.{◌≡◌, ◌∙◌, ◌<◌, ◌∷◌, [], ap, sym, inl, inr, arith, ℕ, Bool, false, List, get_or, bit_and, and_assoc, cases_lt, same_from_bits, bit_at_above, Rendition, Style, has, rendition_of}
use Rattle.ansi_style.proofs.BitsLemmas.{same_bit}
use Rattle.ansi_style.specs.Numbers.{color_of_numbers, numbers_of_color, font_of_numbers, font_of_word, numbers_of_font}
use Rattle.ansi_style.specs.States.{rendition_of_numbers, AreExact, HaveSameBytes}
use Rattle.ansi_style.specs.declared.numbers.StyleNumbers.{StyleNumbers}
use Rattle.std.proofs.lemmas.List.FromFn.{get_or-map-range_with_len}

-- numbers whose parts encode those of a style encode the style, since its 24 attributes are the last 24 bits
pub same_rendition :
    (n : StyleNumbers) (s : Style)
    → n.attributes ≡ bit_and s.attributes.0 16777215
    → color_of_numbers n.foreground ≡ color_of_numbers s.foreground
    → color_of_numbers n.background ≡ color_of_numbers s.background
    → color_of_numbers n.underline_color ≡ color_of_numbers s.underline_color
    → font_of_numbers n.font ≡ font_of_word s.attributes.0
    → rendition_of_numbers n ≡ rendition_of s
unfolding rendition_of
same_rendition n s attributes foreground background underline_color font =
    rw (attributes, foreground, background, underline_color, font) (simp and_assoc)

-- the 24 attributes, in the order of their bits
abbrev attributes_in_order : Rendition → List Bool
attributes_in_order s =
    s.bold ∷ s.faint ∷ s.italic ∷ s.underline ∷ s.double_underline ∷ s.slow_blink ∷ s.rapid_blink ∷ s.inverse
    ∷ s.hide ∷ s.crossed_out ∷ s.framed ∷ s.encircled ∷ s.fraktur ∷ s.proportional_spacing ∷ s.overlined ∷ s.ideogram_underline
    ∷ s.ideogram_double_underline ∷ s.ideogram_overline ∷ s.ideogram_double_overline ∷ s.ideogram_stress_marking ∷ s.superscript ∷ s.subscript ∷ s.reset ∷ s.unknown
    ∷ []

-- the numbers of one rendition have the same attributes
same_has : (n m : StyleNumbers) → rendition_of_numbers n ≡ rendition_of_numbers m → (i : ℕ) → i < 24 → has n.attributes i ≡ has m.attributes i
same_has n m same i within =
    sym (get_or-map-range_with_len (has n.attributes) 0 24 i i false within (omega arith))
    ∙ ap (λ s. get_or (attributes_in_order s) i false) same
    ∙ get_or-map-range_with_len (has m.attributes) 0 24 i i false within (omega arith)

-- so they have the same bits
same_bits : (n m : StyleNumbers) → AreExact n → AreExact m → rendition_of_numbers n ≡ rendition_of_numbers m → n.attributes ≡ m.attributes
same_bits n m exact other same = same_from_bits n.attributes m.attributes (λ i. elim (cases_lt i 24) [
  | inl low ↦ same_bit n.attributes m.attributes i (same_has n m same i low)
  | inr high ↦ bit_at_above n.attributes 24 i exact.attributes high ∙ sym (bit_at_above m.attributes 24 i other.attributes high)
])

-- and the same other bytes, each of which the style determines
pub same_bytes : (n m : StyleNumbers) → AreExact n → AreExact m → rendition_of_numbers n ≡ rendition_of_numbers m → HaveSameBytes n m
same_bytes n m exact other same = record {
  attributes = same_bits n m exact other same;
  foreground = exact.foreground ∙ ap numbers_of_color (ap (λ (s : Rendition). s.foreground) same) ∙ sym other.foreground;
  background = exact.background ∙ ap numbers_of_color (ap (λ (s : Rendition). s.background) same) ∙ sym other.background;
  underline_color = exact.underline_color ∙ ap numbers_of_color (ap (λ (s : Rendition). s.underline_color) same) ∙ sym other.underline_color;
  font = exact.font ∙ ap numbers_of_font (ap (λ (s : Rendition). s.font) same) ∙ sym other.font;
}
