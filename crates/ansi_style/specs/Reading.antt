-- Reading a text in a style that is already open.
use Rattle.std.specs.Prelude.{ℕ, List, map, length, slice_index}
use Rattle.std.specs.List.{range_with_len}
use Rattle.ansi_items.specs.Plain.{Mark, plain, marks, marks_up_to}
use Rattle.ansi_style.specs.Rendition.{Rendition, known}
use Rattle.ansi_style.specs.Sgr.{apply_all}
use Rattle.ansi_style.specs.Styled.{StyledByte}

-- the style after marks, if s is the style before them
abbrev pub after_marks : Rendition → List Mark → Rendition
after_marks s ms = apply_all s (map (λ (m : Mark). m.bytes) ms)

-- the style after t, if s is the style before it
abbrev pub style_after_from : Rendition → List ℕ → Rendition
style_after_from s t = after_marks s (marks t)

-- the style at the place i of t, if s is the style before t
abbrev pub style_within : Rendition → List ℕ → ℕ → Rendition
style_within s t i = after_marks s (marks_up_to i (marks t))

-- the styled bytes of t, if s is the style before it
abbrev pub styled_from : Rendition → List ℕ → List StyledByte
styled_from s t =
    let x = plain t in
    map (λ i. record { byte = slice_index x i; style = known (style_within s t i) }) (range_with_len 0 (length x))
