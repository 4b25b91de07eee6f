-- What shown texts are made of: the text of a cell, on one line, and of a paragraph, with line ends.
use Rattle.std.specs.Prelude.{ℕ, ◌==◌, Bool, not, ◌&&◌, ◌||◌, List, [], ◌∷◌, ◌++◌, length, flat_map, chars, encode_utf8_all, if◌then◌else◌}
use Rattle.std.specs.List.{list_all}
use Rattle.std.specs.Str.{byte}
use Rattle.ansi_items.specs.Pieces.{Piece, Text, spelling, pieces_of}
use Rattle.ansi_safe.specs.declared.cells.Place.{Place}
use Rattle.ansi_safe.specs.declared.cells.Place.TheVariants.{Cell, Paragraph}
use Rattle.ansi_safe.specs.declared.policy.Links.TheVariants.{Keep}
use Rattle.ansi_safe.specs.Safe.{is_printing, is_allowed, all_allowed, may_stay}

-- a character that is allowed in a run is a blank if it is a TAB; in a cell a line end is one too
abbrev pub in_place : Place → ℕ → List ℕ
in_place Cell c = if c == byte "\t" || c == byte "\n" then byte " " ∷ [] else if c == byte "\r" then [] else c ∷ []
in_place Paragraph c = if c == byte "\t" then byte " " ∷ [] else c ∷ []

-- what a run is in a place: its characters that are allowed, one after another
abbrev pub run_in : Place → List ℕ → List ℕ
run_in place [] = []
run_in place (c ∷ cs) = (if is_allowed c cs then in_place place c else []) ++ run_in place cs

-- what a piece is in a place: of sequences, SGRs and clean links stay
abbrev pub piece_in : Place → Piece → List ℕ
piece_in place (Text w) = encode_utf8_all (run_in place (chars w))
piece_in place p = if may_stay Keep p then spelling p else []

-- the text t in a place
abbrev pub placed : Place → List ℕ → List ℕ
placed place t = flat_map (piece_in place) (pieces_of t)

-- the text of t in a cell: TAB, line feed, and carriage return and line feed are one blank each; what else isn't allowed is left out (own)
abbrev pub cell : List ℕ → List ℕ
cell t = placed Cell t

-- the text of t in a paragraph: TAB is a blank, and line ends stay; what else isn't allowed is left out (own)
abbrev pub paragraph : List ℕ → List ℕ
paragraph t = placed Paragraph t

-- what a character of a text is in a cell: itself if it is printing, a blank if it is TAB or LF, and otherwise nothing (own)
abbrev pub cell_char : ℕ → List ℕ
cell_char c = if is_printing c then c ∷ [] else if c == byte "\t" || c == byte "\n" then byte " " ∷ [] else []

-- Texts that stay as they are.

-- a character that is allowed in a run stays in a paragraph if it isn't TAB, and in a cell if it isn't LF or CR either
abbrev pub stays_in : Place → ℕ → Bool
stays_in Cell c = not (c == byte "\t" || (c == byte "\n" || c == byte "\r"))
stays_in Paragraph c = not (c == byte "\t")

-- each of these characters of a run is allowed where it is, and stays
abbrev pub run_stays : Place → List ℕ → Bool
run_stays place cs = all_allowed cs && list_all (stays_in place) cs

-- a piece stays as it is
abbrev pub piece_stays : Place → Piece → Bool
piece_stays place (Text w) = run_stays place (chars w)
piece_stays place p = may_stay Keep p

-- each piece of t stays as it is, so `placed place t` is t
abbrev pub is_placed : Place → List ℕ → Bool
is_placed place t = list_all (piece_stays place) (pieces_of t)

-- the text of t in a cell is t
abbrev pub is_cell : List ℕ → Bool
is_cell t = is_placed Cell t

-- Texts of which nothing is left in a cell.

-- a character is neither printing, nor a blank in a cell
abbrev pub is_dropped : ℕ → Bool
is_dropped c = not (is_printing c || (c == byte "\t" || c == byte "\n"))

-- nothing of a piece is left in a cell
abbrev pub is_left_out : Piece → Bool
is_left_out p = length (piece_in Cell p) == 0
