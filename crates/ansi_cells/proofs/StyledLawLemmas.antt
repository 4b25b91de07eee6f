-- The styled bytes of a truncated and of a padded text.
use Rattle.std.proofs.Common.{◌≡◌, ◌≢◌, ℕ, zero, suc, ◌-◌, inl, inr, Bool, true, false, List, [], ◌∷◌, ◌++◌, length, take, slice_range, nat_eq, nat_le, codes, if◌then◌else◌, IsTrue, refl, sym, ◌∙◌, ap, ap₂, subst, arith, append-nil}
use Rattle.std.proofs.lemmas.Bool.{cases_Bool, le-leb}
use Rattle.ansi_items.specs.Pieces.{Piece, Text, spelling, pieces_of}
use Rattle.ansi_items.specs.Plain.{marks, plain, marks_up_to, is_whole}
use Rattle.ansi_items.proofs.JoinLemmas.{AllStandAnywhere, pieces_of-append, pieces_of-spelled, is_whole-append, is_whole-spelled, pieces_stand, spelled}
use Rattle.ansi_style.specs.declared.state.rendition.Rendition.{Rendition}
use Rattle.ansi_style.specs.Rendition.{plain_style, known}
use Rattle.ansi_style.specs.Sgr.{apply}
use Rattle.ansi_style.specs.Styled.{StyledByte, styled, style_of, style_at, style_after, residue}
use Rattle.ansi_style.specs.Written.{close, close_codes}
use Rattle.ansi_style.proofs.CloseLemmas.{close_codes_clear}
use Rattle.ansi_style.proofs.ReadBackLemmas.{close_codes_are, code_pieces, code_pieces_stand, spelled-code_pieces, style_through-codes, styled_through-codes}
use Rattle.ansi_style.proofs.SgrLemmas.{apply-alike}
use Rattle.ansi_style.proofs.StyledLemmas.{style_through, style_through-append, style_through-merged, styled_through, styled_through-alike, styled_through-append, styled_through-merged, styled-pieces, style_after_from-pieces}
use Rattle.ansi_slice.specs.Cut.{interleaved}
use Rattle.ansi_slice.proofs.CutLemmas.{marks_up_to-marks_past}
use Rattle.ansi_slice.proofs.ShownLemmas.{interleaved_pieces, interleaved_pieces_stand, spelled-interleaved_pieces, style_through-interleaved_pieces, styled_through-interleaved_pieces}
use Rattle.ansi_safe.specs.Links.{link_end, link_at, pen_close, IsClosed}
use Rattle.ansi_safe.proofs.EndingLemmas.{link_end-open, link_end-shut}
use Rattle.ansi_cells.specs.declared.shown.Alignment.{Alignment}
use Rattle.ansi_cells.specs.Shown.{has_tail, truncated_end, truncated, missing, before_text, padded, without_style}
use Rattle.ansi_clusters.specs.Lines.{blanks}
use Rattle.ansi_cells.proofs.LinkedLawLemmas.{blanks_are_plain, padded-closed}

-- Only what is known of the style before pieces counts.
pub style_through-alike : (s t : Rendition) (ps : List Piece) → known s ≡ known t → known (style_through s ps) ≡ known (style_through t ps)
style_through-alike s t [] same = same
style_through-alike s t (Text w ∷ ps) same = style_through-alike s t ps same
style_through-alike s t (p ∷ ps) same = style_through-alike (apply s (spelling p)) (apply t (spelling p)) ps (apply-alike s t (spelling p) same)

-- ---- consecutive whole texts, with the style s before them: their styled bytes, and what is known of the style after them

pub record IsStyled (s : Rendition) (t : List ℕ) (bs : List StyledByte) (next : Rendition) : Type 0 where
  pub whole : IsTrue (is_whole t)
  pub bytes : styled_through s (pieces_of t) ≡ bs
  pub after : known (style_through s (pieces_of t)) ≡ known next

pub IsStyled-append : {s middle next : Rendition} {u v : List ℕ} {xs ys : List StyledByte} → IsStyled s u xs middle → IsStyled middle v ys next → IsStyled s (u ++ v) (xs ++ ys) next
IsStyled-append {s} {middle} {next} {u} {v} {xs} {ys} first second = record {
  whole = is_whole-append u v first.whole second.whole;
  bytes = ap (styled_through s) (pieces_of-append u v first.whole second.whole) ∙ styled_through-merged s (pieces_of u ++ pieces_of v) ∙ styled_through-append s (pieces_of u) (pieces_of v)
      ∙ ap₂ ◌++◌ first.bytes (styled_through-alike (style_through s (pieces_of u)) middle (pieces_of v) first.after ∙ second.bytes);
  after = ap known (ap (style_through s) (pieces_of-append u v first.whole second.whole) ∙ style_through-merged s (pieces_of u ++ pieces_of v) ∙ style_through-append s (pieces_of u) (pieces_of v))
      ∙ style_through-alike (style_through s (pieces_of u)) middle (pieces_of v) first.after ∙ second.after;
}

pub IsStyled-text : (t : List ℕ) → IsTrue (is_whole t) → IsStyled plain_style t (styled t) (style_after t)
IsStyled-text t whole = record { whole = whole; bytes = sym (styled-pieces t); after = sym (ap known (style_after_from-pieces plain_style t)) }

IsStyled-nil : (s : Rendition) → IsStyled s [] [] s
IsStyled-nil s = record { whole = refl; bytes = refl; after = refl }

IsStyled-spelled : (s : Rendition) (ps : List Piece) (t : List ℕ) → spelled ps ≡ t → AllStandAnywhere ps → IsStyled s t (styled_through s ps) (style_through s ps)
IsStyled-spelled s ps t is stand = subst (λ u. IsStyled s u (styled_through s ps) (style_through s ps)) is (record {
  whole = is_whole-spelled ps stand;
  bytes = ap (styled_through s) (pieces_of-spelled ps stand) ∙ styled_through-merged s ps;
  after = ap known (ap (style_through s) (pieces_of-spelled ps stand) ∙ style_through-merged s ps);
})

-- of a front they are the slice
IsStyled-front : (t : List ℕ) (e : ℕ) → IsTrue (is_whole t) → IsStyled plain_style (interleaved (plain t) 0 e (marks_up_to e (marks t))) (take e (styled t)) (style_at t e)
IsStyled-front t e whole =
    let shown = interleaved_pieces (λ p. nat_le p e) 0 e (pieces_of t) in
    let made = IsStyled-spelled plain_style shown (interleaved (plain t) 0 e (marks_up_to e (marks t))) (spelled-interleaved_pieces (pieces_of t) (λ p. nat_le p e) 0 e) (interleaved_pieces_stand (pieces_of t) (λ p. nat_le p e) 0 e (pieces_stand t whole)) in
    let all : e - 0 ≡ e = omega arith in
    record {
      whole = made.whole;
      bytes = made.bytes ∙ styled_through-interleaved_pieces (pieces_of t) plain_style (λ p. nat_le p e) 0 e (λ p below. le-leb p e (omega arith)) ∙ ap (λ bs. slice_range bs 0 e) (sym (styled-pieces t)) ∙ ap (λ n. take n (styled t)) all;
      after = made.after ∙ ap known (style_through-interleaved_pieces (pieces_of t) plain_style (λ p. nat_le p e) 0 e);
    }

-- the end of a link has none, and the close of a style ends it

link_end-written : (s : Rendition) → IsStyled s (codes "\u{1b}]8;;\u{1b}\\") [] s
link_end-written s = record { whole = refl; bytes = refl; after = refl }

IsStyled-link_end : (s : Rendition) (link : List ℕ) → IsStyled s (link_end link) [] s
IsStyled-link_end s link = elim (cases_Bool (nat_eq (length link) 0)) [
  | inl none ↦ subst (λ w. IsStyled s w [] s) (sym (link_end-shut link none)) (IsStyled-nil s)
  | inr some ↦ subst (λ w. IsStyled s w [] s) (sym (link_end-open link some)) (link_end-written s)
]

IsStyled-close : (s : Rendition) → IsStyled s (close s) [] plain_style
IsStyled-close s =
    let xs = close_codes s in
    let made = IsStyled-spelled s (code_pieces xs) (close s) (spelled-code_pieces xs) (code_pieces_stand xs (close_codes_are s)) in
    record { whole = made.whole; bytes = made.bytes ∙ styled_through-codes s xs; after = made.after ∙ ap known (style_through-codes s xs) ∙ close_codes_clear s s refl }

IsStyled-pen_close : (t : List ℕ) (i : ℕ) → IsStyled (style_at t i) (pen_close t i) [] plain_style
IsStyled-pen_close t i = IsStyled-append (IsStyled-link_end (style_at t i) (link_at t i)) (IsStyled-close (style_at t i))

-- ---- of a truncated text, and of a padded text

IsStyled-tail : (b : Bool) (tail : List ℕ) → IsTrue (is_whole tail) → IsStyled plain_style (if b then tail else []) (if b then styled tail else []) (if b then style_after tail else plain_style)
IsStyled-tail true tail whole = IsStyled-text tail whole
IsStyled-tail false tail whole = IsStyled-nil plain_style

IsStyled-truncated : (t : List ℕ) (width : ℕ) (tail : List ℕ) → IsTrue (is_whole t) → IsTrue (is_whole tail)
    → IsStyled plain_style (truncated t width tail) (take (truncated_end t width tail) (styled t) ++ (if has_tail t width tail then styled tail else [])) (if has_tail t width tail then style_after tail else plain_style)
unfolding truncated
IsStyled-truncated t width tail whole tail_whole =
    let end = truncated_end t width tail in
    IsStyled-append (IsStyled-front t end whole) (IsStyled-append (IsStyled-pen_close t end) (IsStyled-tail (has_tail t width tail) tail tail_whole))

pub truncated-styled : (t : List ℕ) (width : ℕ) (tail : List ℕ) → IsTrue (is_whole t) → IsTrue (is_whole tail)
    → styled (truncated t width tail) ≡ take (truncated_end t width tail) (styled t) ++ (if has_tail t width tail then styled tail else [])
truncated-styled t width tail whole tail_whole = styled-pieces (truncated t width tail) ∙ (IsStyled-truncated t width tail whole tail_whole).bytes

pub truncated-residue : (t : List ℕ) (width : ℕ) (tail : List ℕ) → IsTrue (is_whole t) → IsTrue (is_whole tail) → residue (truncated t width tail) ≡ (if has_tail t width tail then residue tail else plain_style)
truncated-residue t width tail whole tail_whole =
    ap known (style_after_from-pieces plain_style (truncated t width tail)) ∙ (IsStyled-truncated t width tail whole tail_whole).after ∙ either (has_tail t width tail)
  where
    either : (b : Bool) → known (if b then style_after tail else plain_style) ≡ (if b then residue tail else plain_style)
    either true = refl
    either false = refl

IsStyled-blanks : (s : Rendition) (n : ℕ) → known s ≡ plain_style → IsStyled s (blanks n) (without_style (blanks n)) s
IsStyled-blanks s zero is = IsStyled-nil s
IsStyled-blanks s (suc n) is = (
    let filled : blanks (suc n) ≢ [] = λ e. cc in
    let made = IsStyled-spelled s (Text (blanks (suc n)) ∷ []) (blanks (suc n)) (append-nil (blanks (suc n))) ((filled, blanks_are_plain (suc n)), tt) in
    record { whole = made.whole; bytes = made.bytes ∙ styled_through-alike s plain_style (Text (blanks (suc n)) ∷ []) is ∙ append-nil (without_style (blanks (suc n))); after = made.after })

IsStyled-padded : (t : List ℕ) (width : ℕ) (alignment : Alignment) → IsTrue (is_whole t)
    → IsStyled plain_style (padded t width alignment)
    (without_style (blanks (before_text alignment (missing t width))) ++ styled t ++ without_style (blanks (missing t width - before_text alignment (missing t width)))) plain_style
unfolding padded
IsStyled-padded t width alignment whole =
    let lack = missing t width in
    let before = before_text alignment lack in
    let end = length (plain t) in
    let open_there : style_at t end ≡ style_after t = ap style_of (marks_up_to-marks_past end (pieces_of t) (omega arith)) in
    let closed = subst (λ s. IsStyled s (pen_close t end) [] plain_style) open_there (IsStyled-pen_close t end) in
    let made = IsStyled-append (IsStyled-append (IsStyled-blanks plain_style before refl) (IsStyled-append (IsStyled-text t whole) closed)) (IsStyled-blanks plain_style (lack - before) refl) in
    record {
      whole = made.whole;
      bytes = made.bytes ∙ ap (λ u. (without_style (blanks before) ++ u) ++ without_style (blanks (lack - before))) (append-nil (styled t));
      after = made.after;
    }

pub padded-styled : (t : List ℕ) (width : ℕ) (alignment : Alignment) → IsTrue (is_whole t)
    → styled (padded t width alignment) ≡ without_style (blanks (before_text alignment (missing t width))) ++ styled t ++ without_style (blanks (missing t width - before_text alignment (missing t width)))
padded-styled t width alignment whole = styled-pieces (padded t width alignment) ∙ (IsStyled-padded t width alignment whole).bytes

pub padded-residue : (t : List ℕ) (width : ℕ) (alignment : Alignment) → IsTrue (is_whole t) → residue (padded t width alignment) ≡ plain_style
padded-residue t width alignment whole = ap known (style_after_from-pieces plain_style (padded t width alignment)) ∙ (IsStyled-padded t width alignment whole).after

-- so no style and no link is open at its end
pub padded-is_closed : (t : List ℕ) (width : ℕ) (alignment : Alignment) → IsTrue (is_whole t) → IsClosed (padded t width alignment)
padded-is_closed t width alignment whole = record { style = padded-residue t width alignment whole; link = padded-closed t width alignment whole }
