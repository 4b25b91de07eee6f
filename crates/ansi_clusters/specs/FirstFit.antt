-- First fit: the words of a text on lines of a width, as a relation.
use Rattle.std.specs.Prelude.{◌≡◌, ℕ, ◌+◌, ◌<◌, ◌≤◌, max, ◌⊎◌, Bool, true, false, not, ◌||◌, ◌==◌, nat_le, List, [], ◌∷◌, ◌++◌, length, map, take, All, encode_utf8_all, IsTrue, IsFalse, if◌then◌else◌}
use Rattle.std.specs.List.{list_all}
use Rattle.ansi_clusters.specs.Columns.{clusters, columns_of, bytes_of, lined}
use Rattle.ansi_clusters.specs.Lines.{is_line_end, is_blank, IsLine, place_line}

-- a cluster is one of a word
abbrev pub is_of_word : List ℕ → Bool
is_of_word c = not (is_blank c || is_line_end c)

-- the clusters up to the first one that fails a test, and those from it on
abbrev pub front_of : (List ℕ → Bool) → List (List ℕ) → List (List ℕ)
front_of test [] = []
front_of test (c ∷ cs) = if test c then c ∷ front_of test cs else []

abbrev pub rest_of : (List ℕ → Bool) → List (List ℕ) → List (List ℕ)
rest_of test [] = []
rest_of test (c ∷ cs) = if test c then rest_of test cs else c ∷ cs

-- the blanks at the front of clusters, and the word after them, which may be empty
abbrev pub blanks_of : List (List ℕ) → List (List ℕ)
blanks_of cs = front_of is_blank cs

abbrev pub word_of : List (List ℕ) → List (List ℕ)
word_of cs = front_of is_of_word (rest_of is_blank cs)

-- what is left out before the first line of clusters: the blanks before their first word, unless both fit (as wrap-ansi and textwrap)
abbrev pub left_out : ℕ → List (List ℕ) → List (List ℕ)
left_out width cs =
    if length (word_of cs) == 0 || nat_le (columns_of (blanks_of cs ++ word_of cs)) width then [] else blanks_of cs

-- what has to fit for a line to go on with the clusters after it: blanks and a word, or inside a word the next cluster
abbrev pub needed : List (List ℕ) → List (List ℕ)
needed after = if length (blanks_of after) == 0 then take 1 after else blanks_of after ++ word_of after

-- A line shows some clusters, and others follow. It has no line end, and no blank at its end. It fits, or is one cluster. If a word follows, it
-- has no room. The word that a line ends with goes on after it only if the line has nothing else. (First fit; own.)
pub record IsFilled (width : ℕ) (shown after : List (List ℕ)) : Type 0 where
  pub on_line : IsTrue (list_all (λ c. not (is_line_end c)) shown)
  pub trimmed : (front : List (List ℕ)) (c : List ℕ) → shown ≡ front ++ c ∷ [] → IsFalse (is_blank c)
  pub fits : (columns_of shown ≤ width) ⊎ (length shown ≡ 1)
  pub full : 0 < length (word_of after) → width < columns_of (shown ++ needed after)
  pub broken : 0 < length (front_of is_of_word after) → (0 < length shown) × IsTrue (list_all is_of_word shown)

-- the first line of clusters that begin at a place
pub record IsFirstLine (width place : ℕ) (cs shown after : List (List ℕ)) (line : ℕ × ℕ) : Type 0 where
  pub all : cs ≡ left_out width cs ++ shown ++ after
  pub start : line.0 ≡ place + bytes_of (left_out width cs)
  pub end : line.1 ≡ line.0 + bytes_of shown
  pub filled : IsFilled width shown after

-- The lines of clusters that begin at a place. The blanks after a line, and then at most one line end, are left out; the next line is the first
-- of the clusters after them.
abbrev pub AreFirstFit : ℕ → ℕ → List (List ℕ) → List (ℕ × ℕ) → Type 0
AreFirstFit width place cs [] = ⊥
AreFirstFit width place cs (line ∷ lines) =
    (shown after : List (List ℕ)) × IsFirstLine width place cs shown after line
    × (
    let next = line.1 + bytes_of (blanks_of after) in
    elim (rest_of is_blank after) [
      | [] ↦ lines ≡ []
      | c ∷ rest ↦ elim (is_line_end c) [
        | true ↦ AreFirstFit width (next + length (encode_utf8_all c)) rest lines
        | false ↦ AreFirstFit width next (c ∷ rest) lines
      ]
    ])

-- these are the lines of the clusters of a text; a width of 0 is treated as 1
abbrev pub IsFirstFit : ℕ → List (List ℕ) → List (ℕ × ℕ) → Type 0
IsFirstFit width cs lines = AreFirstFit (max width 1) 0 cs lines

-- These are the lines of what lines show of the plain text x, as positions of x: the least before which as much is shown. (Own.)
pub record AreShownLines (width : ℕ) (x : List ℕ) (lines : List (ℕ × ℕ)) : Type 0 where
  pub shown : List (ℕ × ℕ)
  pub first_fit : IsFirstFit width (clusters (lined x)) shown
  pub each : All (IsLine (lined x) width) shown
  pub places : lines ≡ map (place_line x) shown
