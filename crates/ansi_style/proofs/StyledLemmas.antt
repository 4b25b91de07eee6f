-- The styled bytes of a text, from its pieces in turn.
use Rattle.ansi_style.proofs.Common.{◌≡◌, ℕ, List, [], ◌∷◌, ◌++◌, map, refl, ◌∙◌, ap, ap₂, Piece, Text, spelling, merged, pieces_of, plain, Rendition, known, plain_style, apply, StyledByte, styled, unstyled, styled_from, style_after_from}
use Rattle.ansi_style.proofs.SgrLemmas.{apply-alike}
use Rattle.ansi_style.proofs.ThroughLemmas.{state_through, state_through-append, state_through-merged, state_after-marks_of, seen_through, seen_through-append, seen_through-merged, seen_by-pieces, bytes-seen_through}

-- the style after the pieces, from the style s on
abbrev pub style_through : Rendition → List Piece → Rendition
style_through s ps = state_through apply s ps

-- a plain byte, with what is known of s
abbrev pub styled_byte : Rendition → ℕ → StyledByte
styled_byte s b = record { byte = b; style = known s }

abbrev pub in_style : Rendition → List ℕ → List StyledByte
in_style s w = map (styled_byte s) w

-- the plain bytes of the pieces, each with its known style, from the style s on
abbrev pub styled_through : Rendition → List Piece → List StyledByte
styled_through s ps = seen_through apply styled_byte s ps

-- Pieces in a row.

pub style_through-append : (s : Rendition) (ps qs : List Piece) → style_through s (ps ++ qs) ≡ style_through (style_through s ps) qs
style_through-append = state_through-append apply

pub styled_through-append : (s : Rendition) (ps qs : List Piece) → styled_through s (ps ++ qs) ≡ styled_through s ps ++ styled_through (style_through s ps) qs
styled_through-append = seen_through-append apply styled_byte

-- Only what is known of the style before pieces counts.

pub styled_through-alike : (s t : Rendition) (ps : List Piece) → known s ≡ known t → styled_through s ps ≡ styled_through t ps
styled_through-alike s t [] same = refl
styled_through-alike s t (Text w ∷ ps) same =
    ap₂ (λ u v. u ++ v) (ap (λ k. map (λ b. record { byte = b; style = k }) w) same) (styled_through-alike s t ps same)
styled_through-alike s t (p ∷ ps) same = styled_through-alike (apply s (spelling p)) (apply t (spelling p)) ps (apply-alike s t (spelling p) same)

-- Texts that touch may be joined.

pub style_through-merged : (s : Rendition) (ps : List Piece) → style_through s (merged ps) ≡ style_through s ps
style_through-merged = state_through-merged apply

pub styled_through-merged : (s : Rendition) (ps : List Piece) → styled_through s (merged ps) ≡ styled_through s ps
styled_through-merged = seen_through-merged apply styled_byte

-- So the styled bytes of a text are those of its pieces in turn.

pub styled_from-pieces : (s : Rendition) (t : List ℕ) → styled_from s t ≡ styled_through s (pieces_of t)
styled_from-pieces s t = seen_by-pieces apply styled_byte s (pieces_of t)

pub styled-pieces : (t : List ℕ) → styled t ≡ styled_through plain_style (pieces_of t)
styled-pieces t = seen_by-pieces apply styled_byte plain_style (pieces_of t)

pub style_after_from-pieces : (s : Rendition) (t : List ℕ) → style_after_from s t ≡ style_through s (pieces_of t)
style_after_from-pieces s t = state_after-marks_of apply s (pieces_of t)

-- The bytes of the styled bytes are the plain text.

pub unstyled-styled : (t : List ℕ) → unstyled (styled t) ≡ plain t
unstyled-styled t = ap unstyled (styled-pieces t) ∙ bytes-seen_through apply styled_byte (λ (s : StyledByte). s.byte) (λ s b. refl) plain_style (pieces_of t)
