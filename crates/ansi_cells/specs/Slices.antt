-- A slice of a text by columns: where it begins and ends, and what is written.
use Rattle.std.specs.Prelude.{◌≡◌, ℕ, ◌+◌, ◌-◌, ◌≤◌, ◌==◌, ◌⊎◌, min, Bool, true, chars, not, ◌&&◌, ◌||◌, List, [], ◌∷◌, ◌++◌, length, nat_lt, nat_le, Option, Some, None, unwrap_or, if◌then◌else◌, IsTrue, IsFalse, ⊤}
use Rattle.std.specs.Cow.{cow_str_bytes, IsBorrowedStr}
use Rattle.std.specs.List.{list_all}
use Rattle.ansi_items.specs.Pieces.{Piece, Text}
use Rattle.ansi_items.specs.Plain.{plain, marks, marks_up_to}
use Rattle.ansi_style.specs.Rendition.{has_any}
use Rattle.ansi_style.specs.States.{rendition_of}
use Rattle.ansi_style.specs.Styled.{style_at}
use Rattle.ansi_style.specs.Written.{start, close, longest_start_and_close}
use Rattle.ansi_search.specs.Positions.{no_character_goes_on}
use Rattle.ansi_slice.specs.Cut.{interleaved}
use Rattle.ansi_slice.specs.Kept.{kept}
use Rattle.ansi_split.specs.Parts.{marks_past}
use Rattle.ansi_safe.specs.Cells.{cell}
use Rattle.ansi_safe.specs.Links.{link_at, link_end, longest_link_end, pen_close}
use Rattle.ansi_safe.specs.Safe.{is_printable_byte, is_printing, is_safe, may_stay}
use Rattle.ansi_safe.specs.declared.policy.Links.TheVariants.{Keep}
use Rattle.ansi_clusters.specs.Columns.{clusters, cluster_width, columns, columns_of, bytes_of}
use Rattle.ansi_clusters.specs.Lines.{blanks}
use Rattle.ansi_clusters.specs.Walks.{clusters_from, IsWalk}
use Rattle.ansi_cells.specs.declared.slices.AsciiSlice.{AsciiSlice}
use Rattle.ansi_cells.specs.declared.slices.AsciiSlice.TheVariants.{Unknown, Nothing, Parts as Found}
use Rattle.ansi_cells.specs.declared.slices.Edge.{Edge}
use Rattle.ansi_cells.specs.declared.slices.Parts.{Parts}
use Rattle.ansi_cells.specs.declared.slices.Sliced.{Sliced}
use Rattle.ansi_cells.specs.declared.slices.Sliced.TheVariants.{Joined, Stretch as Stretched}
use Rattle.ansi_cells.specs.declared.slices.Stretch.{Stretch}

-- The clusters that end at or before the column n, from the first one on. A cluster without columns belongs to the column after it. (Own.)
abbrev pub ended : ℕ → List (List ℕ) → List (List ℕ)
ended n [] = []
ended n (k ∷ ks) = if nat_lt 0 n && nat_le (cluster_width k) n then k ∷ ended (n - cluster_width k) ks else []

-- the clusters that begin before the column n, from the first one on: these, and the one that an edge there divides
abbrev pub begun : ℕ → List (List ℕ) → List (List ℕ)
begun n [] = []
begun n (k ∷ ks) = if nat_lt 0 n then k ∷ begun (n - cluster_width k) ks else []

-- x has no column from a up to b
abbrev pub has_no_column : List ℕ → ℕ → ℕ → Bool
has_no_column x a b = nat_le b a || nat_le (columns x) a

-- the place of the column a: where its cluster begins, or the clusters without columns before it
abbrev pub column_place : List ℕ → ℕ → ℕ
column_place x a = bytes_of (ended a (clusters x))

-- The bytes of x that stay, from .. up to: those of whole clusters. At the end of x the clusters without columns belong to the last column.
abbrev pub bytes_from : List ℕ → ℕ → ℕ
bytes_from x a = bytes_of (begun a (clusters x))

abbrev pub bytes_up_to : List ℕ → ℕ → ℕ
bytes_up_to x b = if nat_le (columns x) b then length x else column_place x b

-- how many columns of a cluster that the edge a divides stay
abbrev pub blanks_before : List ℕ → ℕ → ℕ → ℕ
blanks_before x a b = min (columns_of (begun a (clusters x))) b - a

-- how many columns of a cluster that the edge b alone divides stay
abbrev pub blanks_after : List ℕ → ℕ → ℕ → ℕ
blanks_after x a b = if nat_le (columns x) b || nat_lt (column_place x b) (bytes_from x a) then 0 else b - columns_of (ended b (clusters x))

-- how many columns of divided clusters stay, each as a blank
abbrev pub slice_blanks : List ℕ → ℕ → ℕ → ℕ
slice_blanks x a b = blanks_before x a b + blanks_after x a b

-- the place whose pen a slice begins with; at the front there is none
abbrev pub opened_at : List ℕ → ℕ → Option ℕ
opened_at x a = if a == 0 then None else Some (column_place x a)

-- what opens the pen at a place of t: the start of the style, and then the sequence that opened the link (own)
abbrev pub pen_open : List ℕ → Option ℕ → List ℕ
pen_open t None = []
pen_open t (Some i) = start (style_at t i) ++ link_at t i

-- what opens the slice of t from the column a up to b, its text with its sequences, and what closes it
abbrev pub slice_opening : List ℕ → ℕ → ℕ → List ℕ
slice_opening t a b = pen_open t (opened_at (plain t) a) ++ blanks (blanks_before (plain t) a b)

abbrev pub slice_middle : List ℕ → ℕ → ℕ → List ℕ
slice_middle t a b =
    let x = plain t in
    interleaved x (bytes_from x a) (bytes_up_to x b) (marks_past (opened_at x a) (marks_up_to (bytes_up_to x b) (marks t)))

abbrev pub slice_closing : List ℕ → ℕ → ℕ → List ℕ
slice_closing t a b = blanks (blanks_after (plain t) a b) ++ pen_close t (bytes_up_to (plain t) b)

-- the columns of t from a up to b (own)
unfoldable pub sliced_up_to : List ℕ → ℕ → ℕ → List ℕ
sliced_up_to t a b = if has_no_column (plain t) a b then [] else slice_opening t a b ++ slice_middle t a b ++ slice_closing t a b

-- the same without an end, up to the last column
abbrev pub sliced : List ℕ → ℕ → Option ℕ → List ℕ
sliced t a end = sliced_up_to t a (unwrap_or end (columns (plain t)))

-- how many blanks replace divided clusters in it
abbrev pub sliced_blanks : List ℕ → ℕ → Option ℕ → ℕ
sliced_blanks t a end = slice_blanks (plain t) a (unwrap_or end (columns (plain t)))

-- no style and no link is open at a place of t
abbrev pub is_pen_plain : List ℕ → Option ℕ → Bool
is_pen_plain t None = true
is_pen_plain t (Some i) = not (has_any (style_at t i)) && length (link_at t i) == 0

-- the slice is a stretch of t: nothing is written before and after it
abbrev pub is_stretch : List ℕ → ℕ → ℕ → Bool
is_stretch t a b =
    has_no_column (plain t) a b
    || (is_pen_plain t (opened_at (plain t) a) && blanks_before (plain t) a b == 0
    && blanks_after (plain t) a b == 0 && length (pen_close t (bytes_up_to (plain t) b)) == 0)

-- the same without an end, up to the last column
abbrev pub is_sliced_stretch : List ℕ → ℕ → Option ℕ → Bool
is_sliced_stretch t a end = is_stretch t a (unwrap_or end (columns (plain t)))

-- what opens a stretch, the stretch, and what closes it
abbrev pub stretch_opening : Stretch → List ℕ
stretch_opening s = start (rendition_of s.opened.style) ++ s.opened.link.now

abbrev pub stretch_closing : Stretch → List ℕ
stretch_closing s = s.ending.link_end.now ++ close (rendition_of s.ending.style)

abbrev pub stretch_bytes : Stretch → List ℕ
stretch_bytes s = stretch_opening s ++ s.text.now ++ stretch_closing s

-- a slice, joined
abbrev pub sliced_bytes : {A : Type 0} → Sliced A → List ℕ
sliced_bytes (Joined c) = cow_str_bytes c
sliced_bytes (Stretched s) = stretch_bytes s

-- it is a text that the caller lends
abbrev pub IsLentSlice : {A : Type 0} → Sliced A → Type 0
IsLentSlice (Joined c) = IsBorrowedStr c
IsLentSlice (Stretched s) = ⊥

-- No public contract cites what follows.

-- the edge that is n columns after the place `here` of t
pub record IsEdge (t : List ℕ) (here n : ℕ) (edge : Edge) : Type 0 where
  pub start_walk : IsWalk t edge.start
  pub end_walk : IsWalk t edge.end
  pub start : edge.start.position ≡ here + bytes_of (ended n (clusters_from t here))
  pub end : edge.end.position ≡ here + bytes_of (begun n (clusters_from t here))
  pub ordered : edge.start.position ≤ edge.end.position
  pub before : edge.before ≡ n - columns_of (ended n (clusters_from t here))
  pub after : edge.after ≡ columns_of (begun n (clusters_from t here)) - n
  pub rest : clusters_from t here ≡ ended n (clusters_from t here) ++ clusters_from t edge.start.position

-- where a slice whose whole clusters begin at `from` is closed, by its last edge, and the blanks before that
abbrev pub closed_at : List ℕ → ℕ → Edge → ℕ × ℕ
closed_at t from last =
    if nat_lt 0 (columns_of (clusters_from t last.start.position))
    then (last.start.offset, if nat_lt last.start.position from then 0 else last.before)
    else (length t, 0)

-- whole characters of the text are hidden, none if no blanks replace them, and no more than it has
pub record AreWhole (parts : Parts) : Type 0 where
  pub good : IsTrue (no_character_goes_on (plain parts.text.now) parts.hidden)
  pub shown : parts.before ≡ 0 → parts.hidden ≡ 0
  pub within : (parts.hidden ≤ length (plain parts.text.now)) ⊎ (parts.text.now ≡ [])

abbrev pub parts_opening : Parts → List ℕ
parts_opening parts = (start (rendition_of parts.opened.style) ++ parts.opened.link.now) ++ blanks parts.before

abbrev pub parts_closing : Parts → List ℕ
parts_closing parts = blanks parts.after ++ (link_end parts.closed.link.now ++ close (rendition_of parts.closed.style))

-- the parts of a slice, one after another
abbrev pub joined_parts : Parts → List ℕ
joined_parts parts = parts_opening parts ++ kept parts.text.now parts.hidden (length (plain parts.text.now)) ++ parts_closing parts

-- only the text is written
abbrev pub is_middle_alone : Parts → Bool
is_middle_alone parts =
    (not (has_any (rendition_of parts.opened.style)) && length parts.opened.link.now == 0) && parts.before == 0
    && parts.after == 0 && length (link_end parts.closed.link.now ++ close (rendition_of parts.closed.style)) == 0

-- the parts of the slice of t from the column a up to b
pub record AreParts (t : List ℕ) (a b : ℕ) (parts : Parts) : Type 0 where
  pub some : IsFalse (has_no_column (plain t) a b)
  pub whole : AreWhole parts
  pub bytes : joined_parts parts ≡ sliced_up_to t a b
  pub alone : is_middle_alone parts ≡ is_stretch t a b
  pub len : length (joined_parts parts) ≤ length t + slice_blanks (plain t) a b + longest_start_and_close + longest_link_end

-- the parts of a slice of one, no cluster of which is divided
pub record AreAsciiParts (t : List ℕ) (a b : ℕ) (parts : Parts) : Type 0 where
  pub parts_are : AreParts t a b parts
  pub none_before : parts.before ≡ 0
  pub none_after : parts.after ≡ 0

-- a text of a cell: its characters print, and its sequences may stay
pub record IsShownCell (t : List ℕ) : Type 0 where
  pub prints : list_all is_printing (chars (plain t)) ≡ true
  pub safe : IsTrue (is_safe Keep t)

-- a piece of a text of ASCII stays as it is in a cell: printable ASCII, an SGR, and a clean link
abbrev pub is_ascii_piece : Piece → Bool
is_ascii_piece (Text w) = list_all is_printable_byte w
is_ascii_piece p = may_stay Keep p

-- What a pass over a text of ASCII finds: nothing, or that the text stays as it is in a cell, and the parts of its slice.
abbrev pub IsAsciiSlice : List ℕ → ℕ → ℕ → AsciiSlice → Type 0
IsAsciiSlice t a b Unknown = ⊤
IsAsciiSlice t a b Nothing = (cell t ≡ t) × IsTrue (has_no_column (plain t) a b)
IsAsciiSlice t a b (Found parts) = (cell t ≡ t) × AreAsciiParts t a b parts
