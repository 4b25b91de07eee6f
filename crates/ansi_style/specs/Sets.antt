-- What is set in either of two styles, and what is set in one alone.
use Rattle.std.specs.Prelude.{Bool, false, not, ◌&&◌, ◌||◌, ◌==◌, Option, Some, None, nat_eq, if◌then◌else◌}
use Rattle.std.specs.Option.{option_or}
use Rattle.ansi_items.specs.declared.ansitok.AnsiColor.{AnsiColor}
use Rattle.ansi_items.specs.declared.ansitok.AnsiColor.TheVariants.{Bit4, Bit8, Bit24}
use Rattle.ansi_style.specs.declared.state.rendition.Rendition.{Rendition}

-- what is set in p or in s: a color or a font of s is taken before that of p, and `reset` and `unknown`, which change nothing that is shown, are those of p (own)
abbrev pub union : Rendition → Rendition → Rendition
union p s = record p {
  foreground = option_or s.foreground p.foreground;
  background = option_or s.background p.background;
  underline_color = option_or s.underline_color p.underline_color;
  font = option_or s.font p.font;
  bold = s.bold || p.bold;
  faint = s.faint || p.faint;
  italic = s.italic || p.italic;
  underline = s.underline || p.underline;
  double_underline = s.double_underline || p.double_underline;
  slow_blink = s.slow_blink || p.slow_blink;
  rapid_blink = s.rapid_blink || p.rapid_blink;
  inverse = s.inverse || p.inverse;
  hide = s.hide || p.hide;
  crossed_out = s.crossed_out || p.crossed_out;
  framed = s.framed || p.framed;
  encircled = s.encircled || p.encircled;
  fraktur = s.fraktur || p.fraktur;
  proportional_spacing = s.proportional_spacing || p.proportional_spacing;
  overlined = s.overlined || p.overlined;
  ideogram_underline = s.ideogram_underline || p.ideogram_underline;
  ideogram_double_underline = s.ideogram_double_underline || p.ideogram_double_underline;
  ideogram_overline = s.ideogram_overline || p.ideogram_overline;
  ideogram_double_overline = s.ideogram_double_overline || p.ideogram_double_overline;
  ideogram_stress_marking = s.ideogram_stress_marking || p.ideogram_stress_marking;
  superscript = s.superscript || p.superscript;
  subscript = s.subscript || p.subscript;
}

-- colors are the same: of one kind, with the same numbers
abbrev pub is_same_color : AnsiColor → AnsiColor → Bool
is_same_color (Bit4 n) (Bit4 m) = n == m
is_same_color (Bit8 n) (Bit8 m) = n == m
is_same_color (Bit24 r g b) (Bit24 x y z) = r == x && (g == y && b == z)
is_same_color c d = false

-- an optional part, or none if the other is the same
abbrev pub unless_same : {A : Type 0} → (A → A → Bool) → Option A → Option A → Option A
unless_same same (Some a) (Some b) = if same a b then None else Some a
unless_same same a b = a

-- what is set in s and isn't set so in p: a color or a font that p has too is none, and `reset` and `unknown`, which change nothing that is shown, are those of s (own)
abbrev pub difference : Rendition → Rendition → Rendition
difference s p = record s {
  foreground = unless_same is_same_color s.foreground p.foreground;
  background = unless_same is_same_color s.background p.background;
  underline_color = unless_same is_same_color s.underline_color p.underline_color;
  font = unless_same nat_eq s.font p.font;
  bold = s.bold && not p.bold;
  faint = s.faint && not p.faint;
  italic = s.italic && not p.italic;
  underline = s.underline && not p.underline;
  double_underline = s.double_underline && not p.double_underline;
  slow_blink = s.slow_blink && not p.slow_blink;
  rapid_blink = s.rapid_blink && not p.rapid_blink;
  inverse = s.inverse && not p.inverse;
  hide = s.hide && not p.hide;
  crossed_out = s.crossed_out && not p.crossed_out;
  framed = s.framed && not p.framed;
  encircled = s.encircled && not p.encircled;
  fraktur = s.fraktur && not p.fraktur;
  proportional_spacing = s.proportional_spacing && not p.proportional_spacing;
  overlined = s.overlined && not p.overlined;
  ideogram_underline = s.ideogram_underline && not p.ideogram_underline;
  ideogram_double_underline = s.ideogram_double_underline && not p.ideogram_double_underline;
  ideogram_overline = s.ideogram_overline && not p.ideogram_overline;
  ideogram_double_overline = s.ideogram_double_overline && not p.ideogram_double_overline;
  ideogram_stress_marking = s.ideogram_stress_marking && not p.ideogram_stress_marking;
  superscript = s.superscript && not p.superscript;
  subscript = s.subscript && not p.subscript;
}
