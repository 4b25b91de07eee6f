-- The screen of a text: its columns, and what a slice shows of them.
use Rattle.std.specs.Prelude.{ℕ, ◌+◌, ◌&&◌, List, [], ◌∷◌, ◌++◌, length, map, take, drop, nat_lt, nat_le, encode_utf8_all, Option, unwrap_or, if◌then◌else◌}
use Rattle.std.specs.List.{range_with_len}
use Rattle.std.specs.Str.{byte}
use Rattle.ansi_items.specs.Plain.{plain}
use Rattle.ansi_style.specs.Styled.{StyledByte, styled}
use Rattle.ansi_cells.specs.Addresses.{LinkedByte, linked, without_link}
use Rattle.ansi_clusters.specs.Lines.{blanks}
use Rattle.ansi_cells.specs.Shown.{without_style}
use Rattle.ansi_clusters.specs.Columns.{clusters, cluster_width}

-- a column: its cluster, as bytes with their known styles and with their links; which of the cluster's columns it is; and how many that has
pub record Column : Type 0 where
  pub styled : List StyledByte
  pub linked : List LinkedByte
  pub index : ℕ
  pub width : ℕ

-- the columns of a cluster of these bytes
abbrev pub cluster_columns : List StyledByte → List LinkedByte → ℕ → List Column
cluster_columns ss ls w = map (λ i. record { styled = ss; linked = ls; index = i; width = w }) (range_with_len 0 w)

-- the columns of clusters with these bytes, in order; a cluster without columns has none
abbrev pub screen_of : List (List ℕ) → List StyledByte → List LinkedByte → List Column
screen_of [] ss ls = []
screen_of (k ∷ ks) ss ls =
    let n = length (encode_utf8_all k) in
    cluster_columns (take n ss) (take n ls) (cluster_width k) ++ screen_of ks (drop n ss) (drop n ls)

-- the columns of the text t (own)
abbrev pub screen : List ℕ → List Column
screen t = screen_of (clusters (plain t)) (styled t) (linked t)

-- a blank in the style and the link of the first byte of a column's cluster
abbrev pub blank_for : Column → Column
blank_for c = record {
  styled = map (λ (s : StyledByte). record s { byte = byte " " }) (take 1 c.styled);
  linked = map (λ (l : LinkedByte). record l { byte = byte " " }) (take 1 c.linked);
  index = 0;
  width = 1;
}

-- a blank in the plain style, in no link
abbrev pub plain_blank : Column
plain_blank = record { styled = without_style (blanks 1); linked = without_link (blanks 1); index = 0; width = 1 }

-- what a slice from the column a up to b shows of the column i: that column, or a blank if its cluster has columns that the slice doesn't have
abbrev pub shown_in : ℕ → ℕ → ℕ → Column → List Column
shown_in a b i c =
    if nat_le a i && nat_lt i b
    then (if nat_le (a + c.index) i && nat_le (i + c.width) (b + c.index) then c else blank_for c) ∷ []
    else []

-- what it shows of the columns from i on
abbrev pub shown_from : ℕ → ℕ → ℕ → List Column → List Column
shown_from a b i [] = []
shown_from a b i (c ∷ cs) = shown_in a b i c ++ shown_from a b (i + 1) cs

-- the slice of a screen from the column a up to b (own)
abbrev pub screen_slice : ℕ → ℕ → List Column → List Column
screen_slice a b cs = shown_from a b 0 cs

-- the slice from the column a up to `end`, or up to the last column (own)
abbrev pub sliced_screen : ℕ → Option ℕ → List Column → List Column
sliced_screen a end cs = screen_slice a (unwrap_or end (length cs)) cs
