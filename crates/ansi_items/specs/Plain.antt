-- The plain text of a text, its sequences at their places, and whole texts.
use Rattle.std.specs.Prelude.{ℕ, ◌+◌, Bool, true, false, not, ◌&&◌, List, [], ◌∷◌, length, map, flat_map, filter, filter_map, nat_le, ◌==◌, Option, Some, None, if◌then◌else◌}
use Rattle.std.specs.List.{list_all, list_any}
use Rattle.ansi_items.specs.Bytes.{escape}
use Rattle.ansi_items.specs.Sequences.{is_sgr}
use Rattle.ansi_items.specs.Pieces.{Piece, Text, LoneEscape, spelling, pieces_of}

-- the plain bytes of a piece are those of a text
abbrev pub plain_bytes : Piece → List ℕ
plain_bytes (Text w) = w
plain_bytes _ = []

-- the plain bytes of pieces in a row
abbrev pub plain_of : List Piece → List ℕ
plain_of ps = flat_map plain_bytes ps

-- the plain text of t is its texts, joined (the Rust crate)
abbrev pub plain : List ℕ → List ℕ
plain t = plain_of (pieces_of t)

-- a piece and its place: the number of plain bytes before it
pub record Placed : Type 0 where
  pub place : ℕ
  pub piece : Piece

-- n more plain bytes come before it
abbrev pub placed_further_on : ℕ → Placed → Placed
placed_further_on n p = record p { place = n + p.place }

-- each piece at its place
abbrev pub places : List Piece → List Placed
places [] = []
places (p ∷ ps) = record { place = 0; piece = p } ∷ map (placed_further_on (length (plain_bytes p))) (places ps)

-- a mark is a sequence or a lone escape at its place: how many plain bytes come before it, and its bytes
pub record Mark : Type 0 where
  pub place : ℕ
  pub bytes : List ℕ

-- a text is no mark, any other piece is one
abbrev pub mark_of : ℕ → Piece → Option Mark
mark_of place (Text w) = None
mark_of place p = Some (record { place = place; bytes = spelling p })

-- the marks among pieces, in order
abbrev pub marks_of : List Piece → List Mark
marks_of ps = filter_map (λ p. mark_of p.place p.piece) (places ps)

-- the marks of t
abbrev pub marks : List ℕ → List Mark
marks t = marks_of (pieces_of t)

-- the marks at the place i, in order
abbrev pub marks_at : ℕ → List Mark → List Mark
marks_at i ms = filter (λ m. m.place == i) ms

-- the marks at places up to i
abbrev pub marks_up_to : ℕ → List Mark → List Mark
marks_up_to i ms = filter (λ m. nat_le m.place i) ms

-- the bytes of marks in a row
abbrev pub joined : List Mark → List ℕ
joined ms = flat_map (λ m. m.bytes) ms

-- the piece is a text
abbrev pub is_text : Piece → Bool
is_text (Text w) = true
is_text _ = false

-- the piece is a lone escape
abbrev pub is_lone : Piece → Bool
is_lone LoneEscape = true
is_lone _ = false

-- none of the pieces is a lone escape
abbrev pub are_whole : List Piece → Bool
are_whole ps = list_all (λ p. not (is_lone p)) ps

-- a text is whole if none of its pieces is a lone escape (this profile)
abbrev pub is_whole : List ℕ → Bool
is_whole t = are_whole (pieces_of t)

-- t has an ESC
abbrev pub has_escape : List ℕ → Bool
has_escape t = list_any (λ b. b == escape) t

-- the piece is a sequence that is no SGR, or a lone escape
abbrev pub is_other : Piece → Bool
is_other p = not (is_text p) && not (is_sgr (spelling p))

-- what is copied of a piece when styles are written again: nothing of an SGR
abbrev pub copied : Piece → List ℕ
copied p = if is_sgr (spelling p) then [] else spelling p

-- the sequences of t that are no SGR, and its lone escapes, in order
abbrev pub other_sequences : List ℕ → List Piece
other_sequences t = filter is_other (pieces_of t)
