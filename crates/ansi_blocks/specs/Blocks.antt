-- The blocks of a text: each run of text, after the sequences that wait for it, with its style.
use Rattle.std.specs.Prelude.{◌≡◌, ℕ, Bool, true, false, not, List, [], ◌∷◌, ◌++◌, ◌==◌, length, filter, filter_map, flat_map, Option, Some, None, Result, Ok, Err, IsFalse}
use Rattle.std.specs.declared.borrow.CowStr.{CowStr}
use Rattle.std.specs.declared.borrow.CowStr.TheVariants.{Borrowed, Owned}
use Rattle.ansi_items.specs.Sequences.{is_sgr}
use Rattle.ansi_style.specs.declared.state.rendition.Rendition.{Rendition}
use Rattle.ansi_style.specs.Rendition.{plain_style}
use Rattle.ansi_items.specs.Pieces.{Piece, Text, spelling, pieces_of}
use Rattle.ansi_items.specs.Plain.{Placed, places, marks, joined, is_text, marks_at}
use Rattle.ansi_style.specs.Reading.{style_within}

-- a block is a run of text after the sequences that waited for it, the style of that text, and whether it is a borrow
pub record Block : Type 0 where
  pub text : List ℕ
  pub style : Rendition
  pub is_borrow : Bool

-- the bytes of the marks at the place i that aren't SGRs
abbrev pub sequences_before : List ℕ → ℕ → List ℕ
sequences_before t i = joined (filter (λ m. not (is_sgr m.bytes)) (marks_at i (marks t)))

-- a run of text after the sequences that waited for it, in a style; it is a borrow if none waited
abbrev pub block_after : List ℕ → List ℕ → Rendition → Block
block_after sequences w s = record { text = sequences ++ w; style = s; is_borrow = length sequences == 0 }

-- the block of a piece, after these sequences and in this style: a text makes one, a sequence or a lone escape doesn't
abbrev pub block_of : List ℕ → Rendition → Piece → Option Block
block_of sequences s (Text w) = Some (block_after sequences w s)
block_of sequences s _ = None

-- the blocks of t, in order; s is the style before it
unfoldable pub blocks_from : Rendition → List ℕ → List Block
blocks_from s t = filter_map (λ (p : Placed). block_of (sequences_before t p.place) (style_within s t p.place) p.piece) (places (pieces_of t))

-- the runs of text of t, each at its place
abbrev pub runs : List ℕ → List Placed
runs t = filter (λ (p : Placed). is_text p.piece) (places (pieces_of t))

-- t without its SGRs
abbrev pub without_sgrs : List ℕ → List ℕ
without_sgrs t = flat_map spelling (filter (λ p. not (is_sgr (spelling p))) (pieces_of t))

-- the blocks of t, in order (the Rust crate)
abbrev pub blocks : List ℕ → List Block
blocks t = blocks_from plain_style t

-- the text is a borrow
abbrev pub is_borrow : {A : Type 0} → CowStr A → Bool
is_borrow (Borrowed text) = true
is_borrow (Owned text) = false

-- one call of `next` returns the first of the blocks that are left; or an error, if that block isn't a borrow, and then no block is left; or None, if no block is left
abbrev pub GivesBlock : {E : Type 0} → List Block → Option (Result Block E) → List Block → Type 0
GivesBlock old None new = (old ≡ []) × (new ≡ [])
GivesBlock old (Some (Ok block)) new = old ≡ block ∷ new
GivesBlock old (Some (Err e)) new = ((first : Block) × (rest : List Block) × (old ≡ first ∷ rest) × IsFalse first.is_borrow) × (new ≡ [])
