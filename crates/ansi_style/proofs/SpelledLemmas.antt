-- The text that any pieces spell has their styled bytes; and two whole texts are read in turn.
use Rattle.ansi_style.proofs.Common.{◌≡◌, ℕ, List, ◌++◌, map, sym, ◌∙◌, ap, ap₂, IsTrue, Piece, pieces_of, is_whole, Mark, marks, Rendition, plain_style, known, styled, residue, styled_from, style_after_from, AllStandAnywhere, spelled, pieces_of-spelled, pieces_of-append, arith}
use Rattle.ansi_style.proofs.SgrLemmas.{apply_all-alike}
use Rattle.ansi_style.proofs.StyledLemmas.{styled_through, styled_from-pieces, styled_through-merged, style_through, style_after_from-pieces, style_through-merged, styled_through-append, style_through-append, styled_through-alike}

pub styled_from-spelled : (s : Rendition) (ps : List Piece) → AllStandAnywhere ps → styled_from s (spelled ps) ≡ styled_through s ps
styled_from-spelled s ps all = styled_from-pieces s (spelled ps) ∙ ap (styled_through s) (pieces_of-spelled ps all) ∙ styled_through-merged s ps

pub styled-spelled : (ps : List Piece) → AllStandAnywhere ps → styled (spelled ps) ≡ styled_through plain_style ps
styled-spelled = styled_from-spelled plain_style

pub style_after_from-spelled : (s : Rendition) (ps : List Piece) → AllStandAnywhere ps → style_after_from s (spelled ps) ≡ style_through s ps
style_after_from-spelled s ps all = style_after_from-pieces s (spelled ps) ∙ ap (style_through s) (pieces_of-spelled ps all) ∙ style_through-merged s ps

pub residue-spelled : (ps : List Piece) → AllStandAnywhere ps → residue (spelled ps) ≡ known (style_through plain_style ps)
residue-spelled ps all = ap known (style_after_from-spelled plain_style ps all)

-- the styled bytes of the first, and those of the second in the style that the first leaves
pub styled_from-append : (s : Rendition) (u v : List ℕ) → IsTrue (is_whole u) → IsTrue (is_whole v) → styled_from s (u ++ v) ≡ styled_from s u ++ styled_from (style_after_from s u) v
styled_from-append s u v whole_u whole_v =
    styled_from-pieces s (u ++ v) ∙ ap (styled_through s) (pieces_of-append u v whole_u whole_v)
    ∙ styled_through-merged s (pieces_of u ++ pieces_of v) ∙ styled_through-append s (pieces_of u) (pieces_of v)
    ∙ ap₂ (λ x y. x ++ y) (sym (styled_from-pieces s u))
    (ap (λ q. styled_through q (pieces_of v)) (sym (style_after_from-pieces s u)) ∙ sym (styled_from-pieces (style_after_from s u) v))

pub style_after_from-append : (s : Rendition) (u v : List ℕ) → IsTrue (is_whole u) → IsTrue (is_whole v) → style_after_from s (u ++ v) ≡ style_after_from (style_after_from s u) v
style_after_from-append s u v whole_u whole_v = grind (arith, pieces_of-append, style_after_from-pieces, style_through-append, style_through-merged)

-- Only what is known of the style before a text counts.

pub styled_from-alike : (p q : Rendition) (t : List ℕ) → known p ≡ known q → styled_from p t ≡ styled_from q t
styled_from-alike p q t same = styled_from-pieces p t ∙ styled_through-alike p q (pieces_of t) same ∙ sym (styled_from-pieces q t)

pub style_after_from-alike : (p q : Rendition) (t : List ℕ) → known p ≡ known q → known (style_after_from p t) ≡ known (style_after_from q t)
style_after_from-alike p q t same = apply_all-alike p q (map (λ (m : Mark). m.bytes) (marks t)) same

-- if the first leaves nothing open, the second has its own styled bytes
pub styled-append : (u v : List ℕ) → IsTrue (is_whole u) → IsTrue (is_whole v) → residue u ≡ plain_style → styled (u ++ v) ≡ styled u ++ styled v
styled-append u v whole_u whole_v closed =
    styled_from-append plain_style u v whole_u whole_v ∙ ap (λ y. styled u ++ y) (styled_from-alike (style_after_from plain_style u) plain_style v closed)
