-- A cut of a whole text is whole, has the slice of its styled bytes, and leaves nothing known open.
use Rattle.ansi_slice.proofs.Common.{◌≡◌, ℕ, sym, ◌∙◌, ap, ap₂, arith, List, ◌++◌, append-nil, slice_range, IsTrue, length, nat_le, Option, unwrap_or, le-leb, flat_map-append, Piece, pieces_of, spelling, is_whole, plain, plain_style, known, close_codes, style_at, styled, residue, cut_up_to, cut, spelled, AllStandAnywhere, stand-append, pieces_stand, is_whole-spelled, styled_through-append, style_through, styled_through, styled-pieces, style_through-append, styled-spelled, residue-spelled, code_pieces, spelled-code_pieces, code_pieces_stand, close_codes_are, styled_through-codes, style_through-codes, close_codes_clear}
use Rattle.ansi_slice.proofs.ShownLemmas.{interleaved_pieces, spelled-interleaved_pieces, interleaved_pieces_stand, styled_through-interleaved_pieces, style_through-interleaved_pieces}

abbrev pub cut_pieces : List ℕ → ℕ → ℕ → List Piece
cut_pieces t s e = interleaved_pieces (λ p. nat_le p e) s e (pieces_of t) ++ code_pieces (close_codes (style_at t e))

pub spelled-cut_pieces : (t : List ℕ) (s e : ℕ) → spelled (cut_pieces t s e) ≡ cut_up_to t s e
spelled-cut_pieces t s e =
    let closing = close_codes (style_at t e) in
    flat_map-append spelling (interleaved_pieces (λ p. nat_le p e) s e (pieces_of t)) (code_pieces closing)
    ∙ ap₂ (λ u v. u ++ v) (spelled-interleaved_pieces (pieces_of t) (λ p. nat_le p e) s e) (spelled-code_pieces closing)

cut_pieces_stand : (t : List ℕ) (s e : ℕ) → IsTrue (is_whole t) → AllStandAnywhere (cut_pieces t s e)
cut_pieces_stand t s e whole =
    let closing = close_codes (style_at t e) in
    stand-append (interleaved_pieces (λ p. nat_le p e) s e (pieces_of t)) (code_pieces closing)
    (interleaved_pieces_stand (pieces_of t) (λ p. nat_le p e) s e (pieces_stand t whole))
    (code_pieces_stand closing (close_codes_are (style_at t e)))

styled-cut_up_to : (t : List ℕ) (s e : ℕ) → IsTrue (is_whole t) → styled (cut_up_to t s e) ≡ slice_range (styled t) s e
styled-cut_up_to t s e whole =
    let shown = interleaved_pieces (λ p. nat_le p e) s e (pieces_of t) in
    let closing = close_codes (style_at t e) in
    ap styled (sym (spelled-cut_pieces t s e))
    ∙ styled-spelled (cut_pieces t s e) (cut_pieces_stand t s e whole)
    ∙ styled_through-append plain_style shown (code_pieces closing)
    ∙ ap₂ (λ u v. u ++ v)
    (styled_through-interleaved_pieces (pieces_of t) plain_style (λ p. nat_le p e) s e (λ p below. le-leb p e (omega arith)))
    (styled_through-codes (style_through plain_style shown) closing)
    ∙ append-nil (slice_range (styled_through plain_style (pieces_of t)) s e)
    ∙ ap (λ bs. slice_range bs s e) (sym (styled-pieces t))

-- of any range, whether its ends are good or not
pub styled-cut : (t : List ℕ) (s : ℕ) (e : Option ℕ) → IsTrue (is_whole t) → styled (cut t s e) ≡ slice_range (styled t) s (unwrap_or e (length (plain t)))
unfolding cut
styled-cut t s e whole = styled-cut_up_to t s (unwrap_or e (length (plain t))) whole

pub residue-cut : (t : List ℕ) (s : ℕ) (e : Option ℕ) → IsTrue (is_whole t) → residue (cut t s e) ≡ plain_style
unfolding cut
residue-cut t s e whole =
    let end = unwrap_or e (length (plain t)) in
    let shown = interleaved_pieces (λ p. nat_le p end) s end (pieces_of t) in
    let style = style_at t end in
    ap residue (sym (spelled-cut_pieces t s end))
    ∙ residue-spelled (cut_pieces t s end) (cut_pieces_stand t s end whole)
    ∙ ap known (style_through-append plain_style shown (code_pieces (close_codes style)) ∙ style_through-codes (style_through plain_style shown) (close_codes style))
    ∙ close_codes_clear (style_through plain_style shown) style (ap known (style_through-interleaved_pieces (pieces_of t) plain_style (λ p. nat_le p end) s end))

pub is_whole-cut : (t : List ℕ) (s : ℕ) (e : Option ℕ) → IsTrue (is_whole t) → IsTrue (is_whole (cut t s e))
unfolding cut
is_whole-cut t s e whole =
    let end = unwrap_or e (length (plain t)) in
    ap is_whole (sym (spelled-cut_pieces t s end)) ∙ is_whole-spelled (cut_pieces t s end) (cut_pieces_stand t s end whole)
