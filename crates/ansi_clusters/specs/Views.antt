-- What is seen of the characters of a plain text: each as it is, or as a terminal or a line shows it. No public contract cites it.
use Rattle.std.specs.Prelude.{◌≡◌, ℕ, List, [], ◌∷◌, length, take, flat_map, chars}
use Rattle.ansi_items.specs.Plain.{plain}
use Rattle.ansi_safe.specs.Cells.{cell, cell_char}
use Rattle.ansi_clusters.specs.Columns.{shown, line_char, lined, least_place}
use Rattle.ansi_clusters.specs.declared.views.View.{View}
use Rattle.ansi_clusters.specs.declared.views.View.TheVariants.{Given, Shown, Lined}

-- what is seen of a character
abbrev pub seen_char : View → ℕ → List ℕ
seen_char Given c = c ∷ []
seen_char Shown c = cell_char c
seen_char Lined c = line_char c

-- what is seen of characters
abbrev pub seen : View → List ℕ → List ℕ
seen Given cs = cs
seen Shown cs = flat_map cell_char cs
seen Lined cs = flat_map line_char cs

-- what is seen of the plain text of t
abbrev pub seen_text : View → List ℕ → List ℕ
seen_text Given t = plain t
seen_text Shown t = plain (cell t)
seen_text Lined t = lined (plain t)

-- how many bytes are seen before the position n
abbrev pub seen_len : View → List ℕ → ℕ → ℕ
seen_len Given t n = n
seen_len Shown t n = length (shown (take n (plain t)))
seen_len Lined t n = length (lined (take n (plain t)))

-- the least position before which n bytes are seen
abbrev pub given_place : View → List ℕ → ℕ → ℕ
given_place Given t n = n
given_place Shown t n = least_place cell_char n (chars (plain t))
given_place Lined t n = least_place line_char n (chars (plain t))

-- nothing is left out just before the position n
abbrev pub IsTight : View → List ℕ → ℕ → Type 0
IsTight view t n = given_place view t (seen_len view t n) ≡ n
