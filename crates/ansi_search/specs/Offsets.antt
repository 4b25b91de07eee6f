-- Where the plain bytes of a text are in it. No contract of AnsiStr cites it.
use Rattle.std.specs.Prelude.{◌≡◌, ◌≢◌, ℕ, ◌+◌, ◌-◌, ◌<◌, Bool, ◌||◌, ◌==◌, List, [], ◌∷◌, length, drop, nat_lt, IsTrue, IsFalse, if◌then◌else◌, slice_index, slice_range}
use Rattle.std.specs.Int.{is_in_range}
use Rattle.std.specs.Str.{IsCharBoundary, byte}
use Rattle.ansi_items.specs.Bytes.{escape, bell}
use Rattle.ansi_items.specs.Pieces.{Piece, Text, spelling, pieces_of}
use Rattle.ansi_items.specs.Plain.{plain, plain_of}
use Rattle.ansi_search.specs.Positions.{no_character_goes_on}

-- how many bytes of pieces are before the plain byte n, with the sequences up to there; all of them, if there is no such byte
abbrev pub bytes_before : ℕ → List Piece → ℕ
bytes_before n [] = 0
bytes_before n (Text w ∷ ps) = if nat_lt n (length w) then n else length w + bytes_before (n - length w) ps
bytes_before n (p ∷ ps) = length (spelling p) + bytes_before n ps

-- the offset in t of its plain byte n
abbrev pub offset_of : List ℕ → ℕ → ℕ
offset_of t n = bytes_before n (pieces_of t)

-- the position n of the plain text of t is good, and is at the offset i in t
pub record StandsIn (t : List ℕ) (n i : ℕ) : Type 0 where
  pub good : IsTrue (no_character_goes_on (plain t) n)
  pub offset : i ≡ offset_of t n
  pub boundary : IsCharBoundary t i

-- an item begins where this text does, whatever is before it: at an ESC that no `\` follows, since no sequence has one but at its front
abbrev pub BeginsItem : List ℕ → Type 0
BeginsItem t = (t ≢ [] → slice_index t 0 ≡ escape) × (slice_index t 1 ≢ byte "\\")

-- a control sequence or an escape sequence has only such bytes before its last one
abbrev pub goes_on : ℕ → Bool
goes_on b = b == escape || (b == byte "[" || is_in_range 0x20 0x3F b)

-- t is plain from the offset i on, whatever is before the byte before i: it has no ESC and no BEL there, and no sequence but a control string goes on after that byte
pub record IsSurelyPlain (t : List ℕ) (i : ℕ) : Type 0 where
  pub boundary : IsCharBoundary t i
  pub bytes : (k : ℕ) → (slice_index (drop i t) k ≢ escape) × (slice_index (drop i t) k ≢ bell)
  pub begins : 0 < i → IsFalse (goes_on (slice_index t (i - 1)))

-- the plain text of t ends with that of what t has from the offset i on, whose plain bytes are where they are in it
pub record IsEnd (t : List ℕ) (i : ℕ) : Type 0 where
  pub boundary : IsCharBoundary t i
  pub before : ℕ
  pub count : before + length (plain (drop i t)) ≡ length (plain t)
  pub rest : drop before (plain t) ≡ plain (drop i t)
  pub offset : (n : ℕ) → offset_of t (before + n) ≡ i + offset_of (drop i t) n

-- the bytes m..e of t are the end of its plain text, and only sequences are after them
pub record IsLastRun (t : List ℕ) (m e : ℕ) : Type 0 where
  pub end : IsEnd t m
  pub boundary : IsCharBoundary t e
  pub marks : List Piece
  pub pieces : pieces_of (drop m t) ≡ Text (slice_range t m e) ∷ marks
  pub bare : plain_of marks ≡ []
