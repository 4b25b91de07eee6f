-- Sequences make styles of styles: each color and font that they select is in its range.
use Rattle.ansi_style.proofs.Common.{◌≡◌, ◌∙◌, sym, ap, inl, inr, Bool, if◌then◌else◌, cases_Bool, ℕ, zero, suc, true, List, [], ◌∷◌, length, Option, Some, None, refl, IsTrue, IfSome, nat_lt, arith, map, rules, and_from, or_left, or_right, option_map_or, ForSome, is_in_range, AnsiColor, Style, rendition_of, sgr_parameters, Mark, marks, marks_up_to, Rendition, is_foreground, is_background, is_extended_color, IsStyle, plain_style, Effect, Changes, ReadsColor, effect_of, color_number, color_by_parts, color_by_number, read_color, perform, steps, step, apply, apply_parameters, fields_of, apply_all, style_at, style_after, style_after_from}
use Rattle.ansi_style.specs.Numbers.{color_of_numbers, font_of_word}
use Rattle.ansi_style.specs.Sets.{unless_same}
use Rattle.std.specs.Option.{option_or}
use Rattle.ansi_style.proofs.SgrLemmas.{effect_holds}

-- the ranges, field by field
abbrev HasRanges : Rendition → Type 0
HasRanges s = IfSome s.foreground (λ c. IsTrue (is_foreground c)) × IfSome s.background (λ c. IsTrue (is_background c))
    × IfSome s.underline_color (λ c. IsTrue (is_extended_color c)) × IfSome s.font (λ n. IsTrue (is_in_range 11 19 n))

has_ranges : (s : Rendition) → IsStyle s → HasRanges s
has_ranges s is = (is.foreground, is.background, is.underline_color, is.font)

is_style : (s : Rendition) → HasRanges s → IsStyle s
is_style s has = record { foreground = has.0; background = has.1; underline_color = has.2; font = has.3 }

-- the effect makes styles of styles
abbrev KeepsRanges : Effect → Type 0
KeepsRanges (Changes f) = (s : Rendition) → HasRanges s → HasRanges (f s)
KeepsRanges (ReadsColor put) = (c : AnsiColor) (s : Rendition) → IsTrue (is_extended_color c) → HasRanges s → HasRanges (put c s)

extended_is_foreground : (c : AnsiColor) → IsTrue (is_extended_color c) → IsTrue (is_foreground c)
extended_is_foreground c is = grind arith

extended_is_background : (c : AnsiColor) → IsTrue (is_extended_color c) → IsTrue (is_background c)
extended_is_background c is = grind arith

effect_keeps_ranges : (field : List ℕ) → KeepsRanges (effect_of field)
effect_keeps_ranges = effect_holds KeepsRanges (λ s is. is) (search (rules, or_left, or_right, extended_is_foreground, extended_is_background))

-- a number of a color is at most 255
color_number_is_byte : (field : List ℕ) → nat_lt (color_number field) 256 ≡ true
color_number_is_byte field = grind arith

abbrev ReadsExtended : Option AnsiColor × List (List ℕ) → Type 0
ReadsExtended read = IfSome read.0 (λ c. IsTrue (is_extended_color c))

color_by_parts_is_extended : (fields : List (List ℕ)) → ReadsExtended (color_by_parts fields)
color_by_parts_is_extended fields = grind (arith, and_from, color_number_is_byte)

color_by_number_is_extended : (fields : List (List ℕ)) → ReadsExtended (color_by_number fields)
color_by_number_is_extended [] = tt
color_by_number_is_extended (n ∷ fields) = color_number_is_byte n

read_color_is_extended : (fields : List (List ℕ)) → ReadsExtended (read_color fields)
read_color_is_extended fields = grind (arith, color_by_number_is_extended, color_by_parts_is_extended)

perform_keeps_ranges : (e : Effect) (s : Rendition) (fields : List (List ℕ)) → KeepsRanges e → HasRanges s → HasRanges (perform e s fields).0
perform_keeps_ranges (Changes f) s fields keeps is = keeps s is
perform_keeps_ranges (ReadsColor put) s fields keeps is = by_color (read_color fields).0 (read_color_is_extended fields)
  where
    by_color : (o : Option AnsiColor) → IfSome o (λ c. IsTrue (is_extended_color c)) → HasRanges (option_map_or (λ c. put c s) o s)
    by_color None read = is
    by_color (Some c) read = keeps c s read is

steps_keep_ranges : (n : ℕ) (s : Rendition) (fields : List (List ℕ)) → HasRanges s → HasRanges (steps n s fields)
steps_keep_ranges zero s fields is = is
steps_keep_ranges (suc n) s [] is = steps_keep_ranges n s [] is
steps_keep_ranges (suc n) s (field ∷ fields) is =
    let next = step s (field ∷ fields) in
    steps_keep_ranges n next.0 next.1 (perform_keeps_ranges (effect_of field) s fields (effect_keeps_ranges field) is)

apply_keeps_ranges : (s : Rendition) (w : List ℕ) → HasRanges s → HasRanges (apply s w)
apply_keeps_ranges s w is = by_parameters (sgr_parameters w)
  where
    by_parameters : (o : Option (List ℕ)) → HasRanges (option_map_or (apply_parameters s) o s)
    by_parameters None = is
    by_parameters (Some parameters) = steps_keep_ranges (length (fields_of parameters)) s (fields_of parameters) is

-- Each style that is read is a style.

pub IsStyle-apply : (s : Rendition) (w : List ℕ) → IsStyle s → IsStyle (apply s w)
IsStyle-apply s w is = is_style (apply s w) (apply_keeps_ranges s w (has_ranges s is))

pub IsStyle-apply_all : (s : Rendition) (ws : List (List ℕ)) → IsStyle s → IsStyle (apply_all s ws)
IsStyle-apply_all s [] is = is
IsStyle-apply_all s (w ∷ ws) is = IsStyle-apply_all (apply s w) ws (IsStyle-apply s w is)

pub IsStyle-plain_style : IsStyle plain_style
IsStyle-plain_style = is_style plain_style (tt, tt, tt, tt)

pub IsStyle-style_after_from : (s : Rendition) (t : List ℕ) → IsStyle s → IsStyle (style_after_from s t)
IsStyle-style_after_from s t is = IsStyle-apply_all s (map (λ (m : Mark). m.bytes) (marks t)) is

pub IsStyle-style_at : (t : List ℕ) (i : ℕ) → IsStyle (style_at t i)
IsStyle-style_at t i = IsStyle-apply_all plain_style (map (λ (m : Mark). m.bytes) (marks_up_to i (marks t))) IsStyle-plain_style

pub IsStyle-style_after : (t : List ℕ) → IsStyle (style_after t)
IsStyle-style_after t = IsStyle-style_after_from plain_style t IsStyle-plain_style

-- a style of the code is one
pub IsStyle-rendition_of : (s : Style) → IsStyle (rendition_of s)
unfolding rendition_of
IsStyle-rendition_of s = record {
  foreground = if_some (color_of_numbers s.foreground) s.foreground_in_range;
  background = if_some (color_of_numbers s.background) s.background_in_range;
  underline_color = if_some (color_of_numbers s.underline_color) s.underline_color_in_range;
  font = if_some (font_of_word s.attributes.0) s.font_in_range;
}
  where
    if_some : {X : Type 0} {P : X → Type 0} (o : Option X) → ForSome o P → IfSome o P
    if_some None for = tt
    if_some (Some x) for = for x refl

-- What is set in either of two styles, or in one alone, is in its range.

pub or_in_range : {X : Type 0} {P : X → Type 0} {q : Option X} (o p : Option X) → q ≡ option_or o p → ForSome o P → ForSome p P → ForSome q P
or_in_range None p is first second x some = second x (sym is ∙ some)
or_in_range (Some y) p is first second x some = first x (sym is ∙ some)

pub unless_same_in_range : {X : Type 0} {P : X → Type 0} {q : Option X} (same : X → X → Bool) (o p : Option X) → q ≡ unless_same same o p → ForSome o P → ForSome q P
unless_same_in_range same None p is first x some = first x (sym is ∙ some)
unless_same_in_range same (Some y) None is first x some = first x (sym is ∙ some)
unless_same_in_range same (Some y) (Some z) is first x some = elim (cases_Bool (same y z)) [
  | inl same_there ↦ absurd (let none = sym (is ∙ ap (λ b. if b then None else Some y) same_there) ∙ some in cc)
  | inr other ↦ first x (sym (is ∙ ap (λ b. if b then None else Some y) other) ∙ some)
]
