-- Rows: what a line shows, as bytes in their styles and links, so that a cluster may join where two rows meet; and what the calls make of a row.
use Rattle.std.specs.Prelude.{ℕ, zero, suc, ◌-◌, List, [], ◌∷◌, ◌++◌, map, take, drop, slice_range, nat_le, Option, unwrap_or, if◌then◌else◌}
use Rattle.std.specs.Str.{byte}
use Rattle.ansi_items.specs.Plain.{plain}
use Rattle.ansi_style.specs.Styled.{StyledByte, styled, unstyled}
use Rattle.ansi_safe.specs.Cells.{cell, paragraph}
use Rattle.ansi_cells.specs.declared.shown.Alignment.{Alignment}
use Rattle.ansi_cells.specs.declared.sides.Side.{Side}
use Rattle.ansi_cells.specs.declared.sides.Side.TheVariants.{End, Start, Middle}
use Rattle.ansi_cells.specs.Addresses.{LinkedByte, linked, without_link}
use Rattle.ansi_clusters.specs.Columns.{clusters, columns, fitting_end}
use Rattle.ansi_cells.specs.Indents.{text_width}
use Rattle.ansi_clusters.specs.Lines.{lines, blanks}
use Rattle.ansi_cells.specs.Screens.{Column, screen_of, screen}
use Rattle.ansi_cells.specs.Shown.{before_text, without_style}
use Rattle.ansi_cells.specs.Sides.{before_tail}
use Rattle.ansi_cells.specs.Slices.{has_no_column, column_place, bytes_from, bytes_up_to, blanks_before, blanks_after}

-- a row: bytes with their known styles, and the same bytes with their links
pub record Row : Type 0 where
  pub styled : List StyledByte
  pub linked : List LinkedByte

-- the row of the text t (own)
abbrev pub row : List ℕ → Row
row t = record { styled = styled t; linked = linked t }

-- what is shown of the text t on a line: the row of its cell
abbrev pub cell_row : List ℕ → Row
cell_row t = row (cell t)

-- the bytes of a row
abbrev pub row_bytes : Row → List ℕ
row_bytes r = unstyled r.styled

-- how many columns they have
abbrev pub row_width : Row → ℕ
row_width r = columns (row_bytes r)

-- the columns of a row are those of its clusters, as the screen of a text has them
abbrev pub row_screen : Row → List Column
row_screen r = screen_of (clusters (row_bytes r)) r.styled r.linked

-- a row with nothing
abbrev pub no_row : Row
no_row = record { styled = []; linked = [] }

-- two rows side by side; a cluster may join where they meet
abbrev pub joined : Row → Row → Row
joined r s = record { styled = r.styled ++ s.styled; linked = r.linked ++ s.linked }

-- the bytes of a row in a range
abbrev pub row_range : ℕ → ℕ → Row → Row
row_range i j r = record { styled = slice_range r.styled i j; linked = slice_range r.linked i j }

-- the first bytes of a row
abbrev pub row_up_to : ℕ → Row → Row
row_up_to i r = record { styled = take i r.styled; linked = take i r.linked }

-- n blanks in the plain style, in no link
abbrev pub blank_row : ℕ → Row
blank_row n = record { styled = without_style (blanks n); linked = without_link (blanks n) }

-- n copies of a list, one after another
abbrev pub copies : {A : Type 0} → ℕ → List A → List A
copies zero xs = []
copies (suc n) xs = xs ++ copies n xs

-- n blanks in the style and the link of the byte at a place of a row
abbrev pub blanks_like : ℕ → ℕ → Row → Row
blanks_like n i r = record {
  styled = copies n (map (λ (s : StyledByte). record s { byte = byte " " }) (take 1 (drop i r.styled)));
  linked = copies n (map (λ (l : LinkedByte). record l { byte = byte " " }) (take 1 (drop i r.linked)));
}

-- the first clusters of a row that fit into `width` columns
abbrev pub fitting_row : ℕ → Row → Row
fitting_row width r = row_up_to (fitting_end width (clusters (row_bytes r))) r

-- a row truncated to `width` columns: if it is wider, what fits beside the tail, and the tail; a tail that is wider is left out (own)
unfoldable pub truncated_row : ℕ → Row → Row → Row
truncated_row width tail r =
    if nat_le (row_width r) width then r
    else if nat_le (row_width tail) width then joined (fitting_row (width - row_width tail) r) tail
    else fitting_row width r

-- a row among the blanks that it lacks (own)
unfoldable pub padded_row : ℕ → Alignment → Row → Row
padded_row width alignment r =
    let n = width - row_width r in
    let before = before_text alignment n in
    joined (joined (blank_row before) r) (blank_row (n - before))

-- a row truncated, and then padded (own)
abbrev pub fitted_row : ℕ → Alignment → Row → Row → Row
fitted_row width alignment tail r = padded_row width alignment (truncated_row width tail r)

-- the columns of a row from a up to b: whole clusters, between blanks for those that an edge divides (own)
unfoldable pub row_columns : ℕ → ℕ → Row → Row
row_columns a b r =
    let x = row_bytes r in
    if has_no_column x a b then no_row else
    joined (blanks_like (blanks_before x a b) (column_place x a) r) (joined (row_range (bytes_from x a) (bytes_up_to x b) r) (blanks_like (blanks_after x a b) (bytes_up_to x b) r))

-- the columns from a up to `end`, or up to the last one
abbrev pub sliced_row : ℕ → Option ℕ → Row → Row
sliced_row a end r = row_columns a (unwrap_or end (row_width r)) r

-- the tail, unless it is wider than `width`
abbrev pub fitting_tail_row : ℕ → Row → Row
fitting_tail_row width tail = if nat_le (row_width tail) width then tail else no_row

-- a row without its first or its middle columns, and the tail in place of them (own)
abbrev pub cut_row : Side → ℕ → Row → Row → Row
cut_row side width tail r =
    let between = fitting_tail_row width tail in
    let room = width - row_width between in
    let first = before_tail side room in
    joined (joined (row_columns 0 first r) between) (row_columns (row_width r - (room - first)) (row_width r) r)

-- a row truncated to `width` columns at a side of it (own)
unfoldable pub truncated_row_at : Side → ℕ → Row → Row → Row
truncated_row_at End width tail r = truncated_row width tail r
truncated_row_at Start width tail r = if nat_le (row_width r) width then r else cut_row Start width tail r
truncated_row_at Middle width tail r = if nat_le (row_width r) width then r else cut_row Middle width tail r

-- the rows of the lines of the text t wrapped at a width
abbrev pub line_rows : ℕ → List ℕ → List Row
line_rows width t = map (λ (i : ℕ × ℕ). row_range i.0 i.1 (row t)) (lines width (plain t))

-- rows of lines, the first after one indent and the others after another
abbrev pub indented_rows : Row → Row → List Row → List Row
indented_rows first later [] = []
indented_rows first later (r ∷ rs) = joined first r ∷ indented_rows later later rs

-- what the lines of the text t wrapped at a width show: of the columns of its paragraph those over the interval of each line (own)
abbrev pub line_screens : List ℕ → ℕ → List (List Column)
line_screens t width =
    let p = paragraph t in
    map (λ (i : ℕ × ℕ). slice_range (screen p) (columns (take i.0 (plain p))) (columns (take i.1 (plain p)))) (lines width (plain p))

-- the same with indents: what each shows beside its line
abbrev pub indented_screens : List ℕ → ℕ → List ℕ → List ℕ → List (List Column)
indented_screens t width first later = map row_screen (indented_rows (cell_row first) (cell_row later) (line_rows (text_width width first later) (paragraph t)))
