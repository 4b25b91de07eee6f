-- The items of a text, seen by their bytes, as pieces: texts, whole sequences and lone escapes.
use Rattle.std.specs.Prelude.{◌≡◌, ◌≢◌, ℕ, zero, suc, ◌-◌, List, [], ◌∷◌, ◌++◌, length, take, drop, IsTrue, slice_index, if◌then◌else◌}
use Rattle.std.specs.List.{list_all, prefix_len}
use Rattle.std.specs.Option.{option_map_or}
use Rattle.ansi_items.specs.Bytes.{escape, is_plain_byte}
use Rattle.ansi_items.specs.Sequences.{IsSequence, after_sequence, skip}

-- a piece is a text, a whole sequence, or an ESC that begins none (this profile)
pub data Piece : Type 0 where
  Text : List ℕ → Piece
  Sequence : List ℕ → Piece
  LoneEscape : Piece

-- the bytes of a piece
abbrev pub spelling : Piece → List ℕ
spelling (Text w) = w
spelling (Sequence w) = w
spelling LoneEscape = escape ∷ []

-- A text isn't empty, has no ESC and goes on up to the next one. A sequence is whole. An ESC is alone if no front of what
-- begins with it is a whole sequence (this profile).
abbrev pub StandsBefore : Piece → List ℕ → Type 0
StandsBefore (Text w) rest = (w ≢ []) × IsTrue (list_all is_plain_byte w) × (rest ≢ [] → slice_index rest 0 ≡ escape)
StandsBefore (Sequence w) rest = IsSequence w
StandsBefore LoneEscape rest = (n : ℕ) → ¬ (IsSequence (take n (escape ∷ rest)))

-- these are the pieces of the text t: spelled one after another they are t, and each may come before what follows it
abbrev pub ArePieces : List ℕ → List Piece → Type 0
ArePieces t [] = t ≡ []
ArePieces t (p ∷ ps) = (rest : List ℕ) × (t ≡ spelling p ++ rest) × StandsBefore p rest × ArePieces rest ps

-- The pieces of a text, computed. `ArePieces` decides what is right, and holds of this list alone.

-- the first piece of a text that isn't empty and that no sequence begins, and what is left
abbrev pub text_or_lone : List ℕ → Piece × List ℕ
text_or_lone t =
    if is_plain_byte (slice_index t 0) then (Text (take (prefix_len is_plain_byte t) t), skip is_plain_byte t)
    else (LoneEscape, drop 1 t)

-- the first piece of a text that isn't empty, and what is left
abbrev pub first_piece : List ℕ → Piece × List ℕ
first_piece t = option_map_or (λ rest. (Sequence (take (length t - length rest) t), rest)) (after_sequence t) (text_or_lone t)

-- the first pieces of a text, at most n of them
abbrev pub first_pieces : ℕ → List ℕ → List Piece
first_pieces zero t = []
first_pieces (suc n) [] = []
first_pieces (suc n) (b ∷ bs) =
    let first = first_piece (b ∷ bs) in
    first.0 ∷ first_pieces n first.1

-- the pieces of a text, which are no more than its bytes
abbrev pub pieces_of : List ℕ → List Piece
pieces_of t = first_pieces (length t) t

-- Pieces in a row, with texts that touch joined.

-- a text before pieces, of which the first may be a text that it joins
abbrev pub after_text : List ℕ → List Piece → List Piece
after_text w (Text v ∷ ps) = Text (w ++ v) ∷ ps
after_text w ps = Text w ∷ ps

-- the pieces with texts that touch joined
abbrev pub merged : List Piece → List Piece
merged [] = []
merged (Text w ∷ ps) = after_text w (merged ps)
merged (p ∷ ps) = p ∷ merged ps
