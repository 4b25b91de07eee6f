-- Empty ranges change nothing.
use Rattle.std.proofs.Common.{◌≡◌, ℕ, ◌-◌, inl, inr, true, List, [], ◌∷◌, ◌++◌, length, take, drop, refl, ◌∙◌, ap, ap₂, arith, append-nil, ◌==◌}
use Rattle.std.proofs.lemmas.Bool.{and_parts, eqb-true, cases_lt}
use Rattle.std.proofs.lemmas.List.{take-append-drop, length-drop}
use Rattle.ansi_items.specs.Pieces.{Piece, Text, ArePieces, pieces_of}
use Rattle.ansi_items.proofs.PieceLemmas.{pieces_are}
use Rattle.ansi_style.specs.declared.state.rendition.Rendition.{Rendition}
use Rattle.ansi_style.specs.Rendition.{plain_style}
use Rattle.ansi_style.specs.Reading.{style_within}
use Rattle.ansi_search.specs.Offsets.{bytes_before, offset_of}
use Rattle.ansi_search.proofs.OffsetLemmas.{bytes_before-last, after_of, after_of-last, after_of-text, pieces_of-after}
use Rattle.ansi_restyle.specs.Ranges.{are_empty}
use Rattle.ansi_restyle.specs.Restyled.{front, rest, changed_pieces, restyled_from, restyled}

-- what follows a position begins with a plain byte
bytes_before-after_of : (n : ℕ) (t : List ℕ) (ps : List Piece) → ArePieces t ps → bytes_before 0 (after_of n ps) ≡ 0
bytes_before-after_of n t [] are = refl
bytes_before-after_of n t (Text w ∷ ps) are = elim (cases_lt n (length w)) [
  | inl last ↦ ap (bytes_before 0) (after_of-last n w ps last) ∙ bytes_before-last 0 (drop n w) ps (omega (arith, length-drop n w, last))
  | inr within ↦ ap (bytes_before 0) (after_of-text n w ps within) ∙ bytes_before-after_of (n - length w) are.0 ps are.3
]
bytes_before-after_of n t (p ∷ ps) are = bytes_before-after_of n are.0 ps are.3

pub offset-rest : (t : List ℕ) (n : ℕ) → offset_of (rest n t) 0 ≡ 0
offset-rest t n = ap (bytes_before 0) (pieces_of-after t n) ∙ bytes_before-after_of n t (pieces_of t) (pieces_are t)

restyled_from-empty : (w : List ℕ) (s : Rendition) (n : ℕ) (t : List ℕ) (rs : List (ℕ × ℕ)) → are_empty rs ≡ true → restyled_from w s n t rs ≡ t
restyled_from-empty w s n t [] none = refl
restyled_from-empty w s n t (r ∷ rs) none =
    let both = and_parts (r.0 == r.1) (are_empty rs) none in
    let same : r.0 ≡ r.1 = eqb-true r.0 r.1 both.0 in
    let before = r.0 - n in
    let within = r.1 - r.0 in
    let zero_long : within ≡ 0 = omega (arith, same) in
    let here = rest before t in
    let style = style_within s t before in
    let none_there : front within here ≡ [] = ap (λ k. front k here) zero_long ∙ ap (λ k. take k here) (offset-rest t before) in
    let all_there : rest within here ≡ here = ap (λ k. rest k here) zero_long ∙ ap (λ k. drop k here) (offset-rest t before) in
    ap₂ (λ u v. (front before t ++ changed_pieces w style (pieces_of u)) ++ v) none_there
    (restyled_from-empty w (style_within style here within) r.1 (rest within here) rs both.1 ∙ all_there)
    ∙ ap (λ u. u ++ here) (append-nil (front before t)) ∙ take-append-drop (offset_of t before) t

pub restyled-empty : (t w : List ℕ) (rs : List (ℕ × ℕ)) → are_empty rs ≡ true → restyled t w rs ≡ t
restyled-empty t w rs none = restyled_from-empty w plain_style 0 t rs none
