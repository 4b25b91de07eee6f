-- A text in which ranges have another style.
use Rattle.std.specs.Prelude.{◌≡◌, ℕ, ◌+◌, ◌-◌, Bool, not, List, [], ◌∷◌, ◌++◌, filter, take, drop, IsTrue, if◌then◌else◌}
use Rattle.std.specs.Int.{is_in_range}
use Rattle.std.specs.List.{list_all}
use Rattle.ansi_items.specs.Pieces.{Piece, Text, spelling, pieces_of}
use Rattle.ansi_items.specs.Plain.{Mark, plain, marks, is_whole}
use Rattle.ansi_items.specs.Sequences.{is_sgr}
use Rattle.ansi_style.specs.declared.state.rendition.Rendition.{Rendition}
use Rattle.ansi_style.specs.Rendition.{plain_style, known}
use Rattle.ansi_style.specs.Sgr.{apply}
use Rattle.ansi_style.specs.Reading.{style_within}
use Rattle.ansi_style.specs.Styled.{StyledByte, styled, residue}
use Rattle.ansi_style.specs.Written.{start, close}
use Rattle.ansi_blocks.specs.Blocks.{without_sgrs}
use Rattle.ansi_search.specs.Offsets.{offset_of}
use Rattle.ansi_restyle.specs.Ranges.{is_in_any}

-- a change is a list of SGR codes with a `;` between: parameter bytes that are digits, `;` and `:` (ECMA-48, section 5.4.1)
abbrev pub is_change : List ℕ → Bool
is_change codes = list_all (is_in_range 0x30 0x3B) codes

-- a styled byte after the SGR w
abbrev pub changed_byte : List ℕ → StyledByte → StyledByte
changed_byte w b = record b { style = known (apply b.style w) }

-- styled bytes, of which the first is at the position n, each after the SGR w if it is in one of the ranges (own)
abbrev pub changed_within : List ℕ → List (ℕ × ℕ) → ℕ → List StyledByte → List StyledByte
changed_within w rs n [] = []
changed_within w rs n (b ∷ bs) = (if is_in_any rs n then changed_byte w b else b) ∷ changed_within w rs (n + 1) bs

-- The headline: u is t with the SGR w applied to each byte in the ranges, and otherwise unchanged. Its styled bytes are those of t, changed in the ranges. Its plain text is that of t. Without SGRs both are the same text, so each link and title stays at its place. It is a whole text, and leaves open the style that t does. (own)
pub record IsRestyled (t w : List ℕ) (rs : List (ℕ × ℕ)) (u : List ℕ) : Type 0 where
  pub styled_bytes : styled u ≡ changed_within w rs 0 (styled t)
  pub plain_text : plain u ≡ plain t
  pub others : without_sgrs u ≡ without_sgrs t
  pub whole : IsTrue (is_whole u)
  pub open_at_end : residue u ≡ residue t

-- the sequences of t that aren't SGRs and its lone escapes, each at its place
abbrev pub other_marks : List ℕ → List Mark
other_marks t = filter (λ (m : Mark). not (is_sgr m.bytes)) (marks t)

-- The bytes.

-- the run v in the style s, changed: the SGR w, the run, the close of the style then, and the start of s
abbrev pub changed_run : List ℕ → Rendition → List ℕ → List ℕ
changed_run w s v = w ++ v ++ close (apply s w) ++ start s

-- pieces with each run changed; s is the style before them
abbrev pub changed_pieces : List ℕ → Rendition → List Piece → List ℕ
changed_pieces w s [] = []
changed_pieces w s (Text v ∷ ps) = changed_run w s v ++ changed_pieces w s ps
changed_pieces w s (p ∷ ps) = spelling p ++ changed_pieces w (apply s (spelling p)) ps

-- the front of t: its first n plain bytes, with every sequence up to there
abbrev pub front : ℕ → List ℕ → List ℕ
front n t = take (offset_of t n) t

-- what follows that front
abbrev pub rest : ℕ → List ℕ → List ℕ
rest n t = drop (offset_of t n) t

-- t, of which the first plain byte is at the position n, changed in the ranges; s is the style before it
abbrev pub restyled_from : List ℕ → Rendition → ℕ → List ℕ → List (ℕ × ℕ) → List ℕ
restyled_from w s n t [] = t
restyled_from w s n t (r ∷ rs) =
    let before = r.0 - n in
    let within = r.1 - r.0 in
    let there = style_within s t before in
    let here = rest before t in
    front before t ++ changed_pieces w there (pieces_of (front within here)) ++ restyled_from w (style_within there here within) r.1 (rest within here) rs

-- t with the SGR w in the ranges
abbrev pub restyled : List ℕ → List ℕ → List (ℕ × ℕ) → List ℕ
restyled t w rs = restyled_from w plain_style 0 t rs
