-- A style of the code as a rendition.
use Rattle.std.specs.Prelude.{◌≡◌, ◌<◌, ℕ, Option, Bool, not, ◌==◌, ◌^◌}
use Rattle.std.specs.Int.RustNames.{bit_and}
use Rattle.ansi_style.specs.Rendition.{Rendition, plain_style}
use Rattle.ansi_style.specs.Numbers.{color_of_numbers, numbers_of_color, font_of_numbers, font_of_word, numbers_of_font}
use Rattle.ansi_style.specs.declared.state.Style.{Style}
use Rattle.ansi_style.specs.declared.numbers.StyleNumbers.{StyleNumbers}

-- a set of attributes has the attribute at this place: the bit there is 1
abbrev pub has : ℕ → ℕ → Bool
has set place = bit_and set (2 ^ place) == 2 ^ place

-- the set has at least one attribute of the other set
abbrev pub has_one : ℕ → ℕ → Bool
has_one set attributes = not (bit_and set attributes == 0)

-- the rendition with exactly the attributes whose places satisfy `is_set`
abbrev pub with_attributes : (ℕ → Bool) → Rendition → Rendition
with_attributes is_set s = record s {
  bold = is_set 0;
  faint = is_set 1;
  italic = is_set 2;
  underline = is_set 3;
  double_underline = is_set 4;
  slow_blink = is_set 5;
  rapid_blink = is_set 6;
  inverse = is_set 7;
  hide = is_set 8;
  crossed_out = is_set 9;
  framed = is_set 10;
  encircled = is_set 11;
  fraktur = is_set 12;
  proportional_spacing = is_set 13;
  overlined = is_set 14;
  ideogram_underline = is_set 15;
  ideogram_double_underline = is_set 16;
  ideogram_overline = is_set 17;
  ideogram_double_overline = is_set 18;
  ideogram_stress_marking = is_set 19;
  superscript = is_set 20;
  subscript = is_set 21;
  reset = is_set 22;
  unknown = is_set 23;
}

-- the rendition with this font
abbrev pub with_font : Option ℕ → Rendition → Rendition
with_font font s = record s { font = font }

-- the rendition of a style of the code
unfoldable pub rendition_of : Style → Rendition
rendition_of s = with_attributes (has s.attributes.0) (record plain_style {
  foreground = color_of_numbers s.foreground;
  background = color_of_numbers s.background;
  underline_color = color_of_numbers s.underline_color;
  font = font_of_word s.attributes.0;
})

-- the rendition that the numbers encode, each attribute by its bit
abbrev pub rendition_of_numbers : StyleNumbers → Rendition
rendition_of_numbers n = with_attributes (has n.attributes) (record plain_style {
  foreground = color_of_numbers n.foreground;
  background = color_of_numbers n.background;
  underline_color = color_of_numbers n.underline_color;
  font = font_of_numbers n.font;
})

-- each bit and each byte that the style of the numbers doesn't need is 0, so exact numbers of one style have the same bytes, by the law `exact_numbers_are_determined` (own)
pub record AreExact (n : StyleNumbers) : Type 0 where
  pub attributes : n.attributes < 2 ^ 24
  pub foreground : n.foreground ≡ numbers_of_color (color_of_numbers n.foreground)
  pub background : n.background ≡ numbers_of_color (color_of_numbers n.background)
  pub underline_color : n.underline_color ≡ numbers_of_color (color_of_numbers n.underline_color)
  pub font : n.font ≡ numbers_of_font (font_of_numbers n.font)

-- two styles as numbers have the same bytes (own)
pub record HaveSameBytes (n m : StyleNumbers) : Type 0 where
  pub attributes : n.attributes ≡ m.attributes
  pub foreground : n.foreground ≡ m.foreground
  pub background : n.background ≡ m.background
  pub underline_color : n.underline_color ≡ m.underline_color
  pub font : n.font ≡ m.font
