-- A text without a prefix, without a suffix, or without the white space at its ends. Every mark stays.
use Rattle.std.specs.Prelude.{◌≡◌, ℕ, ◌+◌, ◌-◌, List, map, flat_map, length, slice_range}
use Rattle.std.specs.Str.{trim, trim_start}
use Rattle.ansi_items.specs.Pieces.{Piece, spelling}
use Rattle.ansi_items.specs.Plain.{plain_of, plain, Mark, marks_of, marks}
use Rattle.ansi_slice.specs.Cut.{interleaved}

-- the plain bytes a..b of t, with every mark at its place (own)
unfoldable pub kept : List ℕ → ℕ → ℕ → List ℕ
kept t a b = interleaved (plain t) a b (marks t)

-- u is what is kept of t over a..b: pieces spell it whose plain bytes are that slice of those of t, and whose marks have the bytes of all marks of t, in order
pub record IsKept (t : List ℕ) (a b : ℕ) (u : List ℕ) : Type 0 where
  pub pieces : List Piece
  pub spelled : u ≡ flat_map spelling pieces
  pub plain_bytes : plain_of pieces ≡ slice_range (plain t) a b
  pub marks_stay : map (λ (m : Mark). m.bytes) (marks_of pieces) ≡ map (λ (m : Mark). m.bytes) (marks t)

-- t without the prefix p of its plain text (std's `strip_prefix`, on the plain text)
abbrev pub without_prefix : List ℕ → List ℕ → List ℕ
without_prefix t p = kept t (length p) (length (plain t))

-- t without the suffix p of its plain text (std's `strip_suffix`, on the plain text)
abbrev pub without_suffix : List ℕ → List ℕ → List ℕ
without_suffix t p = kept t 0 (length (plain t) - length p)

-- the interval of x that std's `trim` leaves
abbrev pub trim_interval : List ℕ → ℕ × ℕ
trim_interval x =
    let from = length x - length (trim_start x) in
    (from, from + length (trim x))

-- t without the white space at the ends of its plain text (std's `trim`, on the plain text)
abbrev pub trimmed : List ℕ → List ℕ
trimmed t =
    let i = trim_interval (plain t) in
    kept t i.0 i.1
