-- The style at a place of a text, and the plain bytes with their styles.
use Rattle.std.specs.Prelude.{ℕ, List, map, length, slice_index}
use Rattle.std.specs.List.{range_with_len}
use Rattle.ansi_style.specs.Rendition.{Rendition, plain_style, known}
use Rattle.ansi_style.specs.Sgr.{apply_all}
use Rattle.ansi_items.specs.Plain.{Mark, plain, marks, marks_up_to}

-- the style after these marks, from the plain style
abbrev pub style_of : List Mark → Rendition
style_of ms = apply_all plain_style (map (λ (m : Mark). m.bytes) ms)

-- the style at the place i of t is that after every mark at a place up to i (the Rust crate)
abbrev pub style_at : List ℕ → ℕ → Rendition
style_at t i = style_of (marks_up_to i (marks t))

-- the style after t is that after all its marks
abbrev pub style_after : List ℕ → Rendition
style_after t = style_of (marks t)

-- a styled byte is a plain byte and its known style
pub record StyledByte : Type 0 where
  pub byte : ℕ
  pub style : Rendition

-- the styled bytes of t are its plain bytes, each with its known style (own)
abbrev pub styled : List ℕ → List StyledByte
styled t =
    let x = plain t in
    map (λ i. record { byte = slice_index x i; style = known (style_at t i) }) (range_with_len 0 (length x))

-- the bytes of styled bytes
abbrev pub unstyled : List StyledByte → List ℕ
unstyled bs = map (λ (b : StyledByte). b.byte) bs

-- the residue of t is the known style that is open at its end (own)
abbrev pub residue : List ℕ → Rendition
residue t = known (style_after t)
