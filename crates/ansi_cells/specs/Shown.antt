-- Truncated and padded texts, ready for display: the style and link still open at their end are closed.
use Rattle.std.specs.Prelude.{◌≡◌, ◌⊎◌, ℕ, ◌+◌, ◌-◌, ◌/◌, Bool, not, ◌&&◌, List, [], ◌∷◌, ◌++◌, length, map, chars, encode_utf8, encode_utf8_all, nat_le, if◌then◌else◌, IsFalse}
use Rattle.std.specs.Cow.{cow_str_bytes, IsBorrowedStr}
use Rattle.ansi_items.specs.Plain.{plain, marks, marks_up_to}
use Rattle.ansi_style.specs.Rendition.{plain_style}
use Rattle.ansi_style.specs.Styled.{StyledByte}
use Rattle.ansi_slice.specs.Cut.{interleaved}
use Rattle.ansi_style.specs.States.{rendition_of}
use Rattle.ansi_style.specs.Written.{close}
use Rattle.ansi_cells.specs.declared.shown.Alignment.{Alignment}
use Rattle.ansi_cells.specs.declared.shown.Shown.{Shown}
use Rattle.ansi_cells.specs.declared.shown.Alignment.TheVariants.{Left, Right, Center}
use Rattle.ansi_clusters.specs.Columns.{clusters, columns, fitting_end}
use Rattle.ansi_clusters.specs.Lines.{blanks}
use Rattle.ansi_safe.specs.Cells.{cell, cell_char}
use Rattle.ansi_safe.specs.Links.{pen_close}

-- the tail is written if the text is wider than `width` and the tail isn't (own)
abbrev pub has_tail : List ℕ → ℕ → List ℕ → Bool
has_tail t width tail = not (nat_le (columns (plain t)) width) && nat_le (columns (plain tail)) width

-- the columns that are left for the text: those beside the tail if that is written
abbrev pub truncated_width : List ℕ → ℕ → List ℕ → ℕ
truncated_width t width tail = if has_tail t width tail then width - columns (plain tail) else width

-- the place at which the text is cut: the end of what fits
abbrev pub truncated_end : List ℕ → ℕ → List ℕ → ℕ
truncated_end t width tail = fitting_end (truncated_width t width tail) (clusters (plain t))

-- what is written after the cut: what closes the pen there, and the tail unchanged
abbrev pub truncated_ending : List ℕ → ℕ → List ℕ → List ℕ
truncated_ending t width tail = pen_close t (truncated_end t width tail) ++ (if has_tail t width tail then tail else [])

-- a text in place of the tail with which the text t is truncated: that tail, or nothing if it isn't written (own)
abbrev pub IsTailFor : List ℕ → ℕ → List ℕ → List ℕ → Type 0
IsTailFor t width tail x = (x ≡ tail) ⊎ ((x ≡ []) × IsFalse (has_tail t width tail))

-- the text t truncated to `width` columns: its plain bytes and marks up to the cut, as a cut has them, and what is written after them (own)
unfoldable pub truncated : List ℕ → ℕ → List ℕ → List ℕ
truncated t width tail =
    let end = truncated_end t width tail in
    interleaved (plain t) 0 end (marks_up_to end (marks t)) ++ truncated_ending t width tail

-- the byte up to which at most n bytes of these characters are shown: the next one that is shown begins there (own)
abbrev pub shown_end : ℕ → List ℕ → ℕ
shown_end n [] = 0
shown_end n (c ∷ cs) =
    let k = length (encode_utf8_all (cell_char c)) in
    if nat_le k n then length (encode_utf8 c) + shown_end (n - k) cs else 0

-- what is kept of the text t if its cell is truncated: its plain bytes and marks up to the next character that is shown, as a cut has them (own)
abbrev pub kept : List ℕ → ℕ → List ℕ → List ℕ
kept t width tail =
    let end = shown_end (truncated_end (cell t) width tail) (chars (plain t)) in
    interleaved (plain t) 0 end (marks_up_to end (marks t))

-- what is kept of the text t stays as it is in a cell; so it does if t stays
unfoldable pub KeptStays : List ℕ → ℕ → List ℕ → Type 0
KeptStays t width tail = cell (kept t width tail) ≡ kept t width tail

-- the number of columns that a text lacks
abbrev pub missing : List ℕ → ℕ → ℕ
missing t width = width - columns (plain t)

-- how many of n blanks come before the text; if n is odd, one more comes after it in the middle alignment (own)
abbrev pub before_text : Alignment → ℕ → ℕ
before_text Left n = 0
before_text Right n = n
before_text Center n = n / 2

-- a text between n blanks (own)
abbrev pub between_blanks : ℕ → Alignment → List ℕ → List ℕ
between_blanks n alignment x = (blanks (before_text alignment n) ++ x) ++ blanks (n - before_text alignment n)

-- a text that is ready for display, joined: the missing blanks are around the text, what ends its pen, and a tail (own)
abbrev pub shown_bytes : {A : Type 0} → Shown A → List ℕ
shown_bytes s = between_blanks s.missing s.alignment ((cow_str_bytes s.text ++ (s.ending.link_end.now ++ close (rendition_of s.ending.style))) ++ s.tail.now)

-- it is a text that the caller lends, and nothing is written before and after it
abbrev pub IsLent : {A : Type 0} → Shown A → Type 0
IsLent s = IsBorrowedStr s.text × ((s.ending.link_end.now ++ close (rendition_of s.ending.style)) ++ s.tail.now ≡ []) × (s.missing ≡ 0)

-- bytes in the plain style
abbrev pub without_style : List ℕ → List StyledByte
without_style x = map (λ b. record { byte = b; style = plain_style }) x

-- what closes the pen at the end of the text t
abbrev pub closing : List ℕ → List ℕ
closing t = pen_close t (length (plain t))

-- a text beside another, such as a tail, is a text of its own: the text of a cell, and what closes its pen (own)
abbrev pub closed_cell : List ℕ → List ℕ
closed_cell t = cell t ++ closing (cell t)

-- the text t, what closes its pen, and the missing blanks (own)
unfoldable pub padded : List ℕ → ℕ → Alignment → List ℕ
padded t width alignment =
    let before = before_text alignment (missing t width) in
    (blanks before ++ (t ++ closing t)) ++ blanks (missing t width - before)
