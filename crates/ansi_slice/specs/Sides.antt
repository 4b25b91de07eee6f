-- The two sides of a text at a position.
use Rattle.std.specs.Prelude.{ℕ, ◌-◌, ◌==◌, List, [], ◌∷◌, ◌++◌, length, take, drop, flat_map, nat_le, nat_lt, if◌then◌else◌}
use Rattle.ansi_items.specs.Pieces.{Piece, Text, spelling, pieces_of}
use Rattle.ansi_items.specs.Plain.{Placed, places, copied}
use Rattle.ansi_style.specs.declared.state.rendition.Rendition.{Rendition}
use Rattle.ansi_style.specs.Sgr.{apply}
use Rattle.ansi_style.specs.Written.{start, close}
use Rattle.ansi_style.specs.Styled.{style_at}

-- bytes are dressed in a style by its start before them and its close after them; without bytes nothing is written
abbrev pub dressed : Rendition → List ℕ → List ℕ
dressed s w = if length w == 0 then [] else start s ++ w ++ close s

-- what a piece gives to the left side: its bytes before mid, dressed in the style there; a sequence goes left if its place is at most mid (the Rust crate)
abbrev pub left_part : ℕ → ℕ → Rendition → Piece → List ℕ
left_part mid place s (Text w) = dressed s (take (mid - place) w)
left_part mid place s p = if nat_le place mid then copied p else []

-- what a piece gives to the right side: its bytes from mid on, dressed; and a sequence that doesn't go left (the Rust crate)
abbrev pub right_part : ℕ → ℕ → Rendition → Piece → List ℕ
right_part mid place s (Text w) = dressed s (drop (mid - place) w)
right_part mid place s p = if nat_le place mid then [] else copied p

-- the left side of t at mid
unfoldable pub left_side : List ℕ → ℕ → List ℕ
left_side t mid = flat_map (λ (p : Placed). left_part mid p.place (style_at t p.place) p.piece) (places (pieces_of t))

-- the right side of t at mid
unfoldable pub right_side : List ℕ → ℕ → List ℕ
right_side t mid = flat_map (λ (p : Placed). right_part mid p.place (style_at t p.place) p.piece) (places (pieces_of t))

-- what pieces give to a side before the plain byte n; s is the style before them; no public contract cites it
abbrev pub side_up_to : Rendition → ℕ → List Piece → List ℕ
side_up_to s n [] = []
side_up_to s n (Text w ∷ ps) = if nat_lt n (length w) then dressed s (take n w) else dressed s w ++ side_up_to s (n - length w) ps
side_up_to s n (p ∷ ps) = copied p ++ side_up_to (apply s (spelling p)) n ps
