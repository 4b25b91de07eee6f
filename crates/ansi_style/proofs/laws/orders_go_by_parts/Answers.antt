-- The order of styles is that of their parts, in turn, and that of colors by their names is that of their ranks.
use Rattle.ansi_style.proofs.Common.{◌≡◌, ℕ, Bool, true, false, Option, Some, None, refl, bool_cmp, nat_cmp, option_cmp, AnsiColor, Bit4, Bit8, Bit24, ghosts, compared, part_of_color, part_of_font, part_of_attribute, ordering_then-equal, same_ansi_color}
use Rattle.ansi_style.proofs.laws.orders_go_by_parts.Goals as goal

same_attribute : (x y : Bool) → bool_cmp x y ≡ compared (part_of_attribute x) (part_of_attribute y)
same_attribute false false = refl
same_attribute false true = refl
same_attribute true false = refl
same_attribute true true = refl

same_font : (x y : Option ℕ) → option_cmp nat_cmp x y ≡ compared (part_of_font x) (part_of_font y)
same_font None None = refl
same_font None (Some y) = refl
same_font (Some x) None = refl
same_font (Some x) (Some y) = ordering_then-equal (nat_cmp x y)

same_color : (x y : Option AnsiColor) → option_cmp ghosts.cmp x y ≡ compared (part_of_color x) (part_of_color y)
same_color None None = refl
same_color None (Some (Bit4 n)) = refl
same_color None (Some (Bit8 n)) = refl
same_color None (Some (Bit24 r g b)) = refl
same_color (Some (Bit4 n)) None = refl
same_color (Some (Bit8 n)) None = refl
same_color (Some (Bit24 r g b)) None = refl
same_color (Some x) (Some y) = same_ansi_color x y

pub returns-clause-style : goal.returns-clause-style
returns-clause-style c = λ a b. simp (same_color, same_font, same_attribute, ← ordering_then-equal)
