-- The start of a style sets it: read from the plain style, and from the style itself.
use Rattle.ansi_style.proofs.Common.{◌≡◌, ℕ, Bool, true, ◌||◌, List, [], ◌++◌, map, Option, Some, None, refl, sym, ◌∙◌, ap, codes, IfSome, IsTrue, is_in_range, or-false, or_self, AnsiColor, Rendition, IsStyle, plain_style, known, is_foreground, is_background, is_extended_color, apply, written, code_if, start_codes, font_codes, color_codes, start, style_after_from}
use Rattle.ansi_style.proofs.SgrLemmas.{apply_all-alike}
use Rattle.ansi_style.proofs.ColorLemmas.{apply-foreground, apply-background, apply-underline_color, apply-font}
use Rattle.ansi_style.proofs.ReadBackLemmas.{◌next◌, LeadFrom, LeadFrom-if, LeadFrom-append, apply_codes, style_after_from-codes, start_codes_are}

-- Read from any style, a start adds what is set to what was set.

-- an option, or the other option if it is `None`
abbrev either_of : {A : Type 0} → Option A → Option A → Option A
either_of None old = old
either_of (Some x) old = Some x

-- one more attribute, which `put` gives its value
LeadFrom-attribute : {q : Rendition} {xs : List (List ℕ)} {p : Rendition} (b old : Bool) (code : List ℕ) (put : Bool → Rendition → Rendition)
    → put old p ≡ p → apply p (written code) ≡ put true p → LeadFrom q xs p → LeadFrom q (xs ++ code_if b code) (put (b || old) p)
LeadFrom-attribute {p = p} b old code put same set so_far =
    LeadFrom-if b code (put (b || old) p) (λ yes. set ∙ ap (λ c. put (c || old) p) (sym yes)) (λ no. sym same ∙ ap (λ c. put (c || old) p) (sym no)) so_far

add_font : (o : Option ℕ) → IfSome o (λ n. IsTrue (is_in_range 11 19 n)) → (p : Rendition) → apply_codes p (font_codes o) ≡ record p { font = either_of o p.font }
add_font None is p = refl
add_font (Some n) is p = apply-font n is p

add_foreground : (o : Option AnsiColor) → IfSome o (λ c. IsTrue (is_foreground c)) → (p : Rendition) → apply_codes p (color_codes (codes "38") o) ≡ record p { foreground = either_of o p.foreground }
add_foreground None is p = refl
add_foreground (Some c) is p = apply-foreground c is p

add_background : (o : Option AnsiColor) → IfSome o (λ c. IsTrue (is_background c)) → (p : Rendition) → apply_codes p (color_codes (codes "48") o) ≡ record p { background = either_of o p.background }
add_background None is p = refl
add_background (Some c) is p = apply-background c is p

add_underline_color : (o : Option AnsiColor) → IfSome o (λ c. IsTrue (is_extended_color c)) → (p : Rendition) → apply_codes p (color_codes (codes "58") o) ≡ record p { underline_color = either_of o p.underline_color }
add_underline_color None is p = refl
add_underline_color (Some c) is p = apply-underline_color c is p

-- what is set in s, or in p
abbrev set_in_either : Rendition → Rendition → Rendition
set_in_either s p = record p { bold = s.bold || p.bold; faint = s.faint || p.faint; italic = s.italic || p.italic; underline = s.underline || p.underline; slow_blink = s.slow_blink || p.slow_blink; rapid_blink = s.rapid_blink || p.rapid_blink; inverse = s.inverse || p.inverse; hide = s.hide || p.hide; crossed_out = s.crossed_out || p.crossed_out; font = either_of s.font p.font; fraktur = s.fraktur || p.fraktur; double_underline = s.double_underline || p.double_underline; proportional_spacing = s.proportional_spacing || p.proportional_spacing; foreground = either_of s.foreground p.foreground; background = either_of s.background p.background; underline_color = either_of s.underline_color p.underline_color; framed = s.framed || p.framed; encircled = s.encircled || p.encircled; overlined = s.overlined || p.overlined; ideogram_underline = s.ideogram_underline || p.ideogram_underline; ideogram_double_underline = s.ideogram_double_underline || p.ideogram_double_underline; ideogram_overline = s.ideogram_overline || p.ideogram_overline; ideogram_double_overline = s.ideogram_double_overline || p.ideogram_double_overline; ideogram_stress_marking = s.ideogram_stress_marking || p.ideogram_stress_marking; superscript = s.superscript || p.superscript; subscript = s.subscript || p.subscript }

start_adds : (s p : Rendition) → IsStyle s → apply_codes p (start_codes s) ≡ set_in_either s p
start_adds s p is =
    let none : LeadFrom p [] p = record { reached = refl } in
    (none
    next LeadFrom-attribute s.bold p.bold (codes "1") (λ b p. record p { bold = b }) refl refl
    next LeadFrom-attribute s.faint p.faint (codes "2") (λ b p. record p { faint = b }) refl refl
    next LeadFrom-attribute s.italic p.italic (codes "3") (λ b p. record p { italic = b }) refl refl
    next LeadFrom-attribute s.underline p.underline (codes "4") (λ b p. record p { underline = b }) refl refl
    next LeadFrom-attribute s.slow_blink p.slow_blink (codes "5") (λ b p. record p { slow_blink = b }) refl refl
    next LeadFrom-attribute s.rapid_blink p.rapid_blink (codes "6") (λ b p. record p { rapid_blink = b }) refl refl
    next LeadFrom-attribute s.inverse p.inverse (codes "7") (λ b p. record p { inverse = b }) refl refl
    next LeadFrom-attribute s.hide p.hide (codes "8") (λ b p. record p { hide = b }) refl refl
    next LeadFrom-attribute s.crossed_out p.crossed_out (codes "9") (λ b p. record p { crossed_out = b }) refl refl
    next LeadFrom-append (font_codes s.font) _ (add_font s.font is.font _)
    next LeadFrom-attribute s.fraktur p.fraktur (codes "20") (λ b p. record p { fraktur = b }) refl refl
    next LeadFrom-attribute s.double_underline p.double_underline (codes "21") (λ b p. record p { double_underline = b }) refl refl
    next LeadFrom-attribute s.proportional_spacing p.proportional_spacing (codes "26") (λ b p. record p { proportional_spacing = b }) refl refl
    next LeadFrom-append (color_codes (codes "38") s.foreground) _ (add_foreground s.foreground is.foreground _)
    next LeadFrom-append (color_codes (codes "48") s.background) _ (add_background s.background is.background _)
    next LeadFrom-append (color_codes (codes "58") s.underline_color) _ (add_underline_color s.underline_color is.underline_color _)
    next LeadFrom-attribute s.framed p.framed (codes "51") (λ b p. record p { framed = b }) refl refl
    next LeadFrom-attribute s.encircled p.encircled (codes "52") (λ b p. record p { encircled = b }) refl refl
    next LeadFrom-attribute s.overlined p.overlined (codes "53") (λ b p. record p { overlined = b }) refl refl
    next LeadFrom-attribute s.ideogram_underline p.ideogram_underline (codes "60") (λ b p. record p { ideogram_underline = b }) refl refl
    next LeadFrom-attribute s.ideogram_double_underline p.ideogram_double_underline (codes "61") (λ b p. record p { ideogram_double_underline = b }) refl refl
    next LeadFrom-attribute s.ideogram_overline p.ideogram_overline (codes "62") (λ b p. record p { ideogram_overline = b }) refl refl
    next LeadFrom-attribute s.ideogram_double_overline p.ideogram_double_overline (codes "63") (λ b p. record p { ideogram_double_overline = b }) refl refl
    next LeadFrom-attribute s.ideogram_stress_marking p.ideogram_stress_marking (codes "64") (λ b p. record p { ideogram_stress_marking = b }) refl refl
    next LeadFrom-attribute s.superscript p.superscript (codes "73") (λ b p. record p { superscript = b }) refl refl
    next LeadFrom-attribute s.subscript p.subscript (codes "74") (λ b p. record p { subscript = b }) refl refl).reached

either_of-none : {A : Type 0} (o : Option A) → either_of o None ≡ o
either_of-none None = refl
either_of-none (Some x) = refl

either_of-same : {A : Type 0} (o : Option A) → either_of o o ≡ o
either_of-same None = refl
either_of-same (Some x) = refl

start_from_plain : (s : Rendition) → IsStyle s → apply_codes plain_style (start_codes s) ≡ known s
start_from_plain s is = start_adds s plain_style is ∙ simp (or-false, either_of-none)

start_from_itself : (s : Rendition) → IsStyle s → apply_codes s (start_codes s) ≡ s
start_from_itself s is = start_adds s s is ∙ simp (or_self, either_of-same)

-- So it is with the text that is written for a start.

style_after_from-start : (p s : Rendition) → IsStyle s → style_after_from p (start s) ≡ apply_codes p (start_codes s)
style_after_from-start p s is = style_after_from-codes p (start_codes s) (start_codes_are s is)

pub start_sets : (s : Rendition) → IsStyle s → style_after_from plain_style (start s) ≡ known s
start_sets s is = style_after_from-start plain_style s is ∙ start_from_plain s is

pub start_keeps : (s : Rendition) → IsStyle s → style_after_from s (start s) ≡ s
start_keeps s is = style_after_from-start s s is ∙ start_from_itself s is

-- in a style of which nothing is known, the codes set what is known of s
pub start_codes_set : (p s : Rendition) → IsStyle s → known p ≡ plain_style → known (apply_codes p (start_codes s)) ≡ known s
start_codes_set p s is none = apply_all-alike p plain_style (map written (start_codes s)) none ∙ ap known (start_from_plain s is)

pub start_sets_known : (p s : Rendition) → IsStyle s → known p ≡ plain_style → known (style_after_from p (start s)) ≡ known s
start_sets_known p s is none = ap known (style_after_from-start p s is) ∙ start_codes_set p s is none

pub start_keeps_known : (p s : Rendition) → IsStyle s → known p ≡ known s → known (style_after_from p (start s)) ≡ known s
start_keeps_known p s is same =
    ap known (style_after_from-start p s is) ∙ apply_all-alike p s (map written (start_codes s)) same ∙ ap known (start_from_itself s is)
