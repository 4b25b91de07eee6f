-- The display width of a text: the clusters of its plain text, and the width of each cluster.
use Rattle.std.specs.Prelude.{◌≡◌, ℕ, ◌+◌, ◌-◌, ◌<◌, ◌≤◌, ◌==◌, true, false, List, [], ◌∷◌, length, take, flat_map, encode_utf8, encode_utf8_all, chars, Option, None, Some, if◌then◌else◌, nat_le}
use Rattle.std.specs.List.{sum_by}
use Rattle.std.specs.Str.{byte, IsCharBoundary}
use Rattle.ansi_items.specs.Plain.{plain}
use Rattle.ansi_search.specs.Positions.{is_good_position}
use Rattle.ansi_safe.specs.Cells.{cell, cell_char}
use Rattle.unicode_segmentation.specs.Grapheme.{is_grapheme_break}
use Rattle.unicode_segmentation.specs.Segments.{cut}
use Rattle.unicode_width.specs.Width.{str_width}

-- the extended grapheme clusters of the text x, each as the list of its characters (UAX #29)
abbrev pub clusters : List ℕ → List (List ℕ)
clusters x = cut (is_grapheme_break true) [] (chars x) []

-- the columns of a cluster, in a context that isn't East Asian (UAX #11, as the crate `unicode_width` reads it)
abbrev pub cluster_width : List ℕ → ℕ
cluster_width cluster = str_width false cluster

-- the columns of consecutive clusters, added up
abbrev pub columns_of : List (List ℕ) → ℕ
columns_of clusters = sum_by cluster_width clusters

-- the columns of the text x are those of its clusters, added up
abbrev pub columns : List ℕ → ℕ
columns x = columns_of (clusters x)

-- the number of bytes of clusters in UTF-8
abbrev pub bytes_of : List (List ℕ) → ℕ
bytes_of clusters = length (flat_map encode_utf8_all clusters)

-- The clusters of x up to the byte `end` have at most `width` columns. With the next cluster they have more.
pub record FitsUpTo (x : List ℕ) (width end : ℕ) : Type 0 where
  pub count : ℕ
  pub boundary : end ≡ bytes_of (take count (clusters x))
  pub fits : columns_of (take count (clusters x)) ≤ width
  pub greatest : count < length (clusters x) → width < columns_of (take (count + 1) (clusters x))

-- what a terminal shows of the characters of the plain text x: of each what it is in a cell (own)
abbrev pub shown : List ℕ → List ℕ
shown x = encode_utf8_all (flat_map cell_char (chars x))

-- what lines show of a character: what a terminal does, but LF as it is, since it ends a line (own)
abbrev pub line_char : ℕ → List ℕ
line_char c = if c == byte "\n" then c ∷ [] else cell_char c

-- what lines show of the characters of the plain text x: a paragraph in which each line end is LF alone (own)
abbrev pub lined : List ℕ → List ℕ
lined x = encode_utf8_all (flat_map line_char (chars x))

-- the least byte of characters before which n bytes are seen, if `see` says what is seen of each (own)
abbrev pub least_place : (ℕ → List ℕ) → ℕ → List ℕ → ℕ
least_place see n [] = 0
least_place see n (c ∷ cs) = if n == 0 then 0 else length (encode_utf8 c) + least_place see (n - length (encode_utf8_all (see c))) cs

-- the column of a position of the plain text of t, which counts the columns of what is shown before it, if the position is good (own)
abbrev pub column_of : List ℕ → ℕ → Option ℕ
column_of t position = if is_good_position (plain t) position then Some (columns (shown (take position (plain t)))) else None

-- What is shown of the plain text of t before its byte `end` is the clusters that fit. Before a later character boundary more is shown.
pub record ShowsUpTo (t : List ℕ) (width end : ℕ) : Type 0 where
  pub fits : FitsUpTo (plain (cell t)) width (length (shown (take end (plain t))))
  pub greatest : (later : ℕ) → IsCharBoundary (plain t) later → end < later → length (shown (take end (plain t))) < length (shown (take later (plain t)))

-- the place i of x is between two of its clusters, or at its beginning or end
abbrev pub IsClusterBoundary : List ℕ → ℕ → Type 0
IsClusterBoundary x i = (n : ℕ) × (i ≡ bytes_of (take n (clusters x)))

-- the byte up to which these clusters fit into `width` columns; `FitsUpTo` says the same (own)
abbrev pub fitting_end : ℕ → List (List ℕ) → ℕ
fitting_end width [] = 0
fitting_end width (k ∷ ks) = if nat_le (cluster_width k) width then length (encode_utf8_all k) + fitting_end (width - cluster_width k) ks else 0
