-- The lines of a text that is wrapped at a width: where they begin and end, one cluster after another, and what follows from that.
use Rattle.std.specs.Prelude.{◌≡◌, ℕ, ◌+◌, ◌<◌, ◌≤◌, max, ◌⊎◌, Bool, true, false, ◌||◌, ◌==◌, nat_le, List, [], ◌∷◌, ◌++◌, length, map, take, drop, slice_range, chars, Option, Some, None, IfSome, codes, bytes_eq, encode_utf8_all, IsTrue, if◌then◌else◌, replicate}
use Rattle.ansi_search.specs.Positions.{is_good_range}
use Rattle.ansi_clusters.specs.Columns.{clusters, cluster_width, columns_of, bytes_of, line_char, lined, least_place}
use Rattle.ansi_clusters.specs.Views.{seen_len, given_place}
use Rattle.ansi_clusters.specs.Walks.{clusters_from, seen_clusters, IsWalkIn, IsTightWalk}
use Rattle.ansi_clusters.specs.declared.views.View.{View}
use Rattle.ansi_clusters.specs.declared.views.View.TheVariants.{Given}
use Rattle.ansi_clusters.specs.declared.walks.Walk.{Walk}
use Rattle.std.specs.Str.{byte}

-- n blanks
abbrev pub blanks : ℕ → List ℕ
blanks n = replicate n (byte " ")

-- a cluster is the end of a line: a line feed, or a carriage return and a line feed (as std's `lines`)
unfoldable pub is_line_end : List ℕ → Bool
is_line_end cluster = bytes_eq cluster (codes "\n") || bytes_eq cluster (codes "\r\n")

-- a cluster is a blank, U+0020 alone
unfoldable pub is_blank : List ℕ → Bool
is_blank cluster = bytes_eq cluster (codes " ")

-- the columns of the word that the clusters begin with
unfoldable pub word_columns : List (List ℕ) → ℕ
word_columns [] = 0
word_columns (c ∷ cs) = if is_blank c || is_line_end c then 0 else cluster_width c + word_columns cs

-- The lines of first fit (`IsFirstFit`), as they are found: those of the clusters from the position `here` on. The last line so far begins at `start` and its last word ends at `end`; the text
-- between `start` and `here` has `columns` columns. After a blank, a word stays on the line if all of it fits there. Inside a word, a cluster
-- stays on the line if it fits there. Otherwise a new line begins; blanks before the first word of a line are then left out.
unfoldable pub lines_from : ℕ → ℕ → ℕ → ℕ → ℕ → List (List ℕ) → List (ℕ × ℕ)
lines_from width start end here columns [] = (start, end) ∷ []
lines_from width start end here columns (c ∷ cs) =
    let next = here + length (encode_utf8_all c) in
    let more = if here == end then cluster_width c else word_columns (c ∷ cs) in
    elim (is_line_end c) [
      | true ↦ (start, end) ∷ lines_from width next next next 0 cs
      | false ↦ elim (is_blank c) [
        | true ↦ lines_from width start end next (columns + cluster_width c) cs
        | false ↦ elim ((here == start) || nat_le (columns + more) width) [
          | true ↦ lines_from width start next next (columns + cluster_width c) cs
          | false ↦ elim (end == start) [
            | true ↦ lines_from width here next next (cluster_width c) cs
            | false ↦ (start, end) ∷ lines_from width here next next (cluster_width c) cs
          ]
        ]
      ]
    ]

-- the lines of the text x, each as the positions of its beginning and end; a width of 0 is treated as 1; first fit has no others
abbrev pub lines : ℕ → List ℕ → List (ℕ × ℕ)
lines width x = lines_from (max width 1) 0 0 0 0 (clusters x)

-- the lines of the plain text of t that begin at the walk, or no lines
abbrev pub lines_left : List ℕ → ℕ → Option Walk → List (ℕ × ℕ)
lines_left t width None = []
lines_left t width (Some walk) = lines_from width walk.position walk.position walk.position 0 (clusters_from t walk.position)

-- what a line is as positions of the plain text of t, if it is given as bytes of what is seen of it
abbrev pub given_line : View → List ℕ → ℕ × ℕ → ℕ × ℕ
given_line view t line = (given_place view t line.0, given_place view t line.1)

-- the lines of what is seen of the plain text of t that begin at the walk, as positions of the plain text
abbrev pub seen_lines_left : View → List ℕ → ℕ → Option Walk → List (ℕ × ℕ)
seen_lines_left Given t width next = lines_left t width next
seen_lines_left view t width None = []
seen_lines_left view t width (Some walk) = (let n = seen_len view t walk.position in map (given_line view t) (lines_from width n n n 0 (seen_clusters view t walk.position)))

-- The line that begins at the walk `start` ends at `end`, and `next` is where the next one begins, if there is one.
pub record IsPastLine (view : View) (t : List ℕ) (width : ℕ) (start end : Walk) (next : Option Walk) : Type 0 where
  pub end_is : IsWalkIn view t end
  pub next_is : IfSome next (IsTightWalk view t)
  pub ordered : start.position ≤ end.position
  pub next_ordered : IfSome next (λ walk. end.position ≤ walk.position)
  pub lines : seen_lines_left view t width (Some start) ≡ (start.position, end.position) ∷ seen_lines_left view t width next

-- The line that would begin at the walk `start` begins at `word`, after an indent.
pub record IsPastIndent (view : View) (t : List ℕ) (width : ℕ) (start word : Walk) : Type 0 where
  pub word_is : IsTightWalk view t word
  pub further : start.position < word.position
  pub lines : seen_lines_left view t width (Some start) ≡ seen_lines_left view t width (Some word)

-- positions of what lines show of the plain text x, as the least of x before which as much is shown (own)
abbrev pub place_line : List ℕ → ℕ × ℕ → ℕ × ℕ
place_line x line = (least_place line_char line.0 (chars x), least_place line_char line.1 (chars x))

-- the lines of what lines show of the plain text x, as positions of x (own)
abbrev pub shown_lines : ℕ → List ℕ → List (ℕ × ℕ)
shown_lines width x = map (place_line x) (lines width (lined x))

-- A line is an interval of the clusters of x. It has at most `width` columns, or it is one cluster.
pub record IsLine (x : List ℕ) (width : ℕ) (line : ℕ × ℕ) : Type 0 where
  pub before : List (List ℕ)
  pub shown : List (List ℕ)
  pub after : List (List ℕ)
  pub all : clusters x ≡ before ++ shown ++ after
  pub start : line.0 ≡ bytes_of before
  pub end : line.1 ≡ bytes_of (before ++ shown)
  pub fits : (columns_of shown ≤ max width 1) ⊎ (length shown ≡ 1)

-- x may be cut at the beginning and the end of a line
abbrev pub IsGoodLine : List ℕ → ℕ × ℕ → Type 0
IsGoodLine x line = IsTrue (is_good_range x line.0 (Some line.1))

-- what may be left out between two lines: blanks, and at most one line end among them
abbrev pub IsLeftOut : List ℕ → Type 0
IsLeftOut x = (n m : ℕ) × ((x ≡ blanks n) ⊎ (x ≡ blanks n ++ codes "\n" ++ blanks m) ⊎ (x ≡ blanks n ++ codes "\r\n" ++ blanks m))

-- there is a first line, and only blanks precede it
abbrev pub BeginWithBlanks : List ℕ → List (ℕ × ℕ) → Type 0
BeginWithBlanks x [] = ⊥
BeginWithBlanks x (line ∷ lines) = (n : ℕ) × (take line.0 x ≡ blanks n)

-- The lines are stretches of x, in order, from the place e on. What precedes each line may be left out, and only blanks follow the last one.
abbrev pub AreLinesFrom : List ℕ → ℕ → List (ℕ × ℕ) → Type 0
AreLinesFrom x e [] = (n : ℕ) × (drop e x ≡ blanks n)
AreLinesFrom x e (line ∷ lines) = (e ≤ line.0) × (line.0 ≤ line.1) × (line.1 ≤ length x) × IsLeftOut (slice_range x e line.0) × AreLinesFrom x line.1 lines

-- x from the place e on, as the text on its lines with the text left out before each line and after the last one
abbrev pub reassembled : List ℕ → ℕ → List (ℕ × ℕ) → List ℕ
reassembled x e [] = drop e x
reassembled x e (line ∷ lines) = slice_range x e line.0 ++ slice_range x line.0 line.1 ++ reassembled x line.1 lines
