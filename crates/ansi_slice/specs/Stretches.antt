-- What is kept of a text up to a plain byte: its sequences, and a stretch of it. No public contract cites it.
use Rattle.std.specs.Prelude.{◌≡◌, ◌<◌, ◌≤◌, ℕ, ◌+◌, List, ◌++◌, length, take, drop, slice_range, Option, IfSome, IsTrue}
use Rattle.std.specs.Str.{IsCharBoundary}
use Rattle.ansi_items.specs.Pieces.{Piece}
use Rattle.ansi_items.specs.Plain.{marks_of, marks_up_to, joined}
use Rattle.ansi_items.specs.Pieces.{pieces_of}
use Rattle.ansi_items.specs.Plain.{plain}
use Rattle.ansi_search.specs.Offsets.{StandsIn, offset_of}
use Rattle.ansi_search.specs.Positions.{no_character_goes_on}
use Rattle.ansi_slice.specs.Kept.{kept}

-- the bytes of the sequences and lone escapes before the plain byte n
abbrev pub sequences_up_to : ℕ → List Piece → List ℕ
sequences_up_to n ps = joined (marks_up_to n (marks_of ps))

-- what is kept of t up to its plain byte n is t up to i, and then only the sequences
pub record KeepsUpTo (t : List ℕ) (n i : ℕ) : Type 0 where
  pub boundary : IsCharBoundary t i
  pub bytes : kept t 0 n ≡ take i t ++ kept (drop i t) 0 0

-- the plain byte n of t, if there is one, is at the offset i, and no character goes on at one exactly if none does at the other
pub record IsAt (t : List ℕ) (n i : ℕ) : Type 0 where
  pub offset : i ≡ offset_of t n
  pub within : i ≤ length t
  pub same : no_character_goes_on t i ≡ no_character_goes_on (plain t) n

-- the first m bytes of t are all its sequences before the plain byte n
pub record AreMarks (t : List ℕ) (n m : ℕ) : Type 0 where
  pub boundary : IsCharBoundary t m
  pub bytes : take m t ≡ sequences_up_to n (pieces_of t)

-- the plain bytes s..e of t are in its bytes from..to; and `marks` of its bytes, if known, are the sequences before them
pub record IsStretch (t : List ℕ) (s e : ℕ) (marks : Option ℕ) (from to : ℕ) : Type 0 where
  pub start : IsAt t s from
  pub end : IsAt t e to
  pub ordered : from ≤ to
  pub front : IfSome marks (AreMarks t s)

-- t has a run of text from m up to e, or nothing there, and only sequences before it; so its first plain bytes are at the same distance from m
pub record IsFirstRun (t : List ℕ) (m e : ℕ) : Type 0 where
  pub ordered : m ≤ e
  pub within : e ≤ length t
  pub boundary : IsCharBoundary t m
  pub after : List ℕ
  pub bytes : plain t ≡ slice_range t m e ++ after
  pub marks : (n : ℕ) → m + n < e → sequences_up_to n (pieces_of t) ≡ take m t
  pub places : (n : ℕ) → m + n < e → IsTrue (no_character_goes_on (plain t) n) → StandsIn t n (m + n)
