-- A style in the definitions: a rendition, which is what the SGRs before a byte have selected.
use Rattle.std.specs.Prelude.{Bool, false, ◌&&◌, ◌||◌, [], ◌∷◌, None, is_some, nat_lt, IfSome, IsTrue}
use Rattle.std.specs.Int.{is_in_range}
use Rattle.std.specs.List.{list_any}
use Rattle.ansi_items.specs.declared.ansitok.AnsiColor.{AnsiColor}
use Rattle.ansi_items.specs.declared.ansitok.AnsiColor.TheVariants.{Bit4, Bit8, Bit24}
-- a rendition is three colors, a font and 24 attributes, in the order in which styles are compared (the Rust crate); it is declared in the code, which derives its order and its hash
pub use Rattle.ansi_style.specs.declared.state.rendition.Rendition.{Rendition}

-- the plain style has nothing set
abbrev pub plain_style : Rendition
plain_style = record {
  foreground = None;
  background = None;
  underline_color = None;
  bold = false;
  faint = false;
  italic = false;
  underline = false;
  double_underline = false;
  slow_blink = false;
  rapid_blink = false;
  inverse = false;
  hide = false;
  crossed_out = false;
  reset = false;
  framed = false;
  encircled = false;
  font = None;
  fraktur = false;
  proportional_spacing = false;
  overlined = false;
  ideogram_underline = false;
  ideogram_double_underline = false;
  ideogram_overline = false;
  ideogram_double_overline = false;
  ideogram_stress_marking = false;
  superscript = false;
  subscript = false;
  unknown = false;
}

-- the known style is the style without the attributes `reset` and `unknown`, which no code reads (own)
abbrev pub known : Rendition → Rendition
known s = record s { reset = false; unknown = false }

-- one of the five ideogram attributes is set
abbrev pub has_ideogram_attribute : Rendition → Bool
has_ideogram_attribute s = list_any (λ b. b) (s.ideogram_underline ∷ s.ideogram_double_underline ∷ s.ideogram_overline
    ∷ s.ideogram_double_overline ∷ s.ideogram_stress_marking ∷ [])

-- a color, the font or an attribute other than `reset` and `unknown` is set
abbrev pub has_known : Rendition → Bool
has_known s = list_any (λ b. b) (is_some s.foreground ∷ is_some s.background ∷ is_some s.underline_color ∷ is_some s.font
    ∷ s.bold ∷ s.faint ∷ s.italic ∷ s.underline ∷ s.double_underline ∷ s.slow_blink ∷ s.rapid_blink ∷ s.inverse ∷ s.hide
    ∷ s.crossed_out ∷ s.framed ∷ s.encircled ∷ s.fraktur ∷ s.proportional_spacing ∷ s.overlined ∷ has_ideogram_attribute s
    ∷ s.superscript ∷ s.subscript ∷ [])

-- there is something to reset: known parts are set, or `reset` and `unknown` are both set (the Rust crate, the font counted)
abbrev pub has_any : Rendition → Bool
has_any s = has_known s || (s.reset && s.unknown)

-- a color of the 256-color palette, or one by its red, green and blue
abbrev pub is_extended_color : AnsiColor → Bool
is_extended_color (Bit4 n) = false
is_extended_color (Bit8 n) = nat_lt n 256
is_extended_color (Bit24 r g b) = nat_lt r 256 && (nat_lt g 256 && nat_lt b 256)

-- a color that a foreground may have: codes 30 to 37, 90 to 97, or an extended color
abbrev pub is_foreground : AnsiColor → Bool
is_foreground (Bit4 n) = is_in_range 30 37 n || is_in_range 90 97 n
is_foreground (Bit8 n) = is_extended_color (Bit8 n)
is_foreground (Bit24 r g b) = is_extended_color (Bit24 r g b)

-- a color that a background may have: codes 40 to 47, 100 to 107, or an extended color
abbrev pub is_background : AnsiColor → Bool
is_background (Bit4 n) = is_in_range 40 47 n || is_in_range 100 107 n
is_background (Bit8 n) = is_extended_color (Bit8 n)
is_background (Bit24 r g b) = is_extended_color (Bit24 r g b)

-- the colors and the font are ones that SGR codes can select
pub record IsStyle (s : Rendition) : Type 0 where
  pub foreground : IfSome s.foreground (λ c. IsTrue (is_foreground c))
  pub background : IfSome s.background (λ c. IsTrue (is_background c))
  pub underline_color : IfSome s.underline_color (λ c. IsTrue (is_extended_color c))
  pub font : IfSome s.font (λ n. IsTrue (is_in_range 11 19 n))
