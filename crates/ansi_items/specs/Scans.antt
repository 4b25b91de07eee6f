-- What a scanner has left, and what it gives.
use Rattle.std.specs.Prelude.{◌≡◌, ℕ, ◌<◌, Option, Some, None, List, [], drop, ◌∷◌, slice_range, length, if◌then◌else◌}
use Rattle.std.specs.Str.{IsCharBoundary}
use Rattle.ansi_items.specs.declared.ansitok.Item.{Item}
use Rattle.ansi_items.specs.declared.ansitok.Kind.{Kind}
use Rattle.ansi_items.specs.declared.ansitok.Kind.TheVariants.{Text as TextKind, Sgr, Other, Lone}
use Rattle.ansi_items.specs.Sequences.{is_sgr}
use Rattle.ansi_items.specs.Pieces.{Piece, Text, Sequence, LoneEscape, spelling, pieces_of}

-- a scanner is its text, and how far it has come
pub record Scan : Type 0 where
  pub text : List ℕ
  pub offset : ℕ

-- the pieces that a scanner has left are those of the text from its offset on
abbrev pub pieces_left : Scan → List Piece
pieces_left s = pieces_of (drop s.offset s.text)

-- the kind of a piece
abbrev pub kind_of : Piece → Kind
kind_of (Text w) = TextKind
kind_of (Sequence w) = if is_sgr w then Sgr else Other
kind_of LoneEscape = Lone

-- the piece of this kind with these bytes
abbrev pub piece_of_kind : Kind → List ℕ → Piece
piece_of_kind TextKind w = Text w
piece_of_kind Sgr w = Sequence w
piece_of_kind Other w = Sequence w
piece_of_kind Lone w = LoneEscape

-- the item as a piece of the text t
abbrev pub piece_of : List ℕ → Item → Piece
piece_of t item = piece_of_kind item.kind (slice_range t item.start item.end)

-- A scanner gave an item: the first of the pieces that it had left, by its kind and its bytes, from the scanner's old offset up
-- to its new one. Both are character boundaries.
pub record GivesItem (old : Scan) (item : Item) (new : Scan) : Type 0 where
  pub text : new.text ≡ old.text
  pub start : item.start ≡ old.offset
  pub end : item.end ≡ new.offset
  pub forward : item.start < item.end
  pub piece : pieces_left old ≡ piece_of old.text item ∷ pieces_left new
  pub kind : item.kind ≡ kind_of (piece_of old.text item)
  pub bytes : slice_range old.text item.start item.end ≡ spelling (piece_of old.text item)
  pub start_boundary : IsCharBoundary old.text item.start
  pub end_boundary : IsCharBoundary old.text item.end

-- one call of `next`: an item, or None at the end of the text, when nothing is left and nothing changes
abbrev pub Scans : Scan → Option Item → Scan → Type 0
Scans old None new = (new ≡ old) × (old.offset ≡ length old.text) × (pieces_left old ≡ [])
Scans old (Some item) new = GivesItem old item new
