-- The lines of an input, and the pieces of long ones.
use Rattle.std.specs.Prelude.{◌≡◌, ℕ, zero, suc, ◌+◌, ◌-◌, ◌==◌, Bool, not, ◌&&◌, List, [], ◌∷◌, length, take, drop, codes, nat_lt, slice_index, if◌then◌else◌}
use Rattle.std.specs.Int.{is_in_range}
use Rattle.std.specs.List.{position_or_len}
use Rattle.std.specs.Str.{byte}

-- a line has a text and an end, which is a line feed, a carriage return and a line feed, or nothing
pub record Line : Type 0 where
  pub text : List ℕ
  pub end : List ℕ

-- the most bytes of a piece of a line, which is 1 MiB (own)
abbrev pub max_piece : ℕ
max_piece = 1_048_576

-- a line feed ends a line, and no other byte does
abbrev pub is_line_feed : ℕ → Bool
is_line_feed b = b == byte "\n"

-- t has no line feed
abbrev pub HasNoLineFeed : List ℕ → Type 0
HasNoLineFeed t = position_or_len is_line_feed t ≡ length t

-- a character may begin with any byte but 80 to BF (Unicode, table 3-7)
abbrev pub may_begin : ℕ → Bool
may_begin b = not (is_in_range 0x80 0xBF b)

-- The first piece of a longer line is the longest that ends in front of a byte that may begin a character. A character has at
-- most 4 bytes; so if each of 4 bytes can't begin one, no character has bytes on both sides of the last.
abbrev pub piece_len : List ℕ → ℕ
piece_len t =
    if may_begin (slice_index t max_piece) then max_piece
    else if may_begin (slice_index t (max_piece - 1)) then max_piece - 1
    else if may_begin (slice_index t (max_piece - 2)) then max_piece - 2
    else if may_begin (slice_index t (max_piece - 3)) then max_piece - 3
    else max_piece

-- the bytes in front of an end and those after it: t has a line feed at the place n, and a carriage return directly before it is part of the end
abbrev pub split_end : ℕ → List ℕ → Line × List ℕ
split_end n t =
    if nat_lt 0 n && slice_index t (n - 1) == byte "\r" then (record { text = take (n - 1) t; end = codes "\r\n" }, drop (n + 1) t)
    else (record { text = take n t; end = codes "\n" }, drop (n + 1) t)

-- the first n bytes of t as a line or a piece without an end, and the bytes after them
abbrev pub split_unended : ℕ → List ℕ → Line × List ℕ
split_unended n t = (record { text = take n t; end = [] }, drop n t)

-- the first line of t, and what follows it; if there are more than `max_piece` bytes in front of its line feed, it is only their first piece
abbrev pub first_line : List ℕ → Line × List ℕ
first_line t =
    let n = position_or_len is_line_feed t in
    if nat_lt max_piece n then split_unended (piece_len t) t
    else if nat_lt n (length t) then split_end n t
    else split_unended n t

-- the first lines of t, at most n of them
abbrev pub first_lines : ℕ → List ℕ → List Line
first_lines zero t = []
first_lines (suc n) [] = []
first_lines (suc n) (b ∷ bs) =
    let first = first_line (b ∷ bs) in
    first.0 ∷ first_lines n first.1

-- the lines of t and the pieces of its long lines, in order, which are no more than its bytes
unfoldable pub lines : List ℕ → List Line
lines t = first_lines (length t) t
