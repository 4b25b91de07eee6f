-- A cut of a text: a range of its plain text, with the sequences up to its end, closed.
use Rattle.std.specs.Prelude.{ℕ, ◌+◌, ◌&&◌, List, [], ◌++◌, length, flat_map, nat_le, nat_lt, Option, unwrap_or, if◌then◌else◌, slice_range}
use Rattle.std.specs.List.{range_with_len}
use Rattle.ansi_items.specs.Plain.{Mark, plain, marks, marks_at, marks_up_to, joined}
use Rattle.ansi_style.specs.Styled.{style_at}
use Rattle.ansi_style.specs.Written.{close}

-- what is shown at the place i: the marks there, and then byte i of x if it is in a..b
abbrev pub interleaved_at : List ℕ → ℕ → ℕ → List Mark → ℕ → List ℕ
interleaved_at x a b ms i = joined (marks_at i ms) ++ (if nat_le a i && nat_lt i b then slice_range x i (i + 1) else [])

-- the bytes a..b of the plain text x, with these marks at their places (own)
abbrev pub interleaved : List ℕ → ℕ → ℕ → List Mark → List ℕ
interleaved x a b ms = flat_map (interleaved_at x a b ms) (range_with_len 0 (length x + 1))

-- the cut from s up to e: these plain bytes, with every mark up to e, and then the close of the style there (the Rust crate)
abbrev pub cut_up_to : List ℕ → ℕ → ℕ → List ℕ
cut_up_to t s e = interleaved (plain t) s e (marks_up_to e (marks t)) ++ close (style_at t e)

-- the cut of a range; without an end it goes on to the end of the plain text
unfoldable pub cut : List ℕ → ℕ → Option ℕ → List ℕ
cut t s e = cut_up_to t s (unwrap_or e (length (plain t)))
