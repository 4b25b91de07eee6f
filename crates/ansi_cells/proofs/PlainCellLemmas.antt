-- Texts of cells that are SGRs and characters that are clusters by themselves beside each other: what one pass over the pieces finds, and the text truncated and padded.
use Rattle.std.proofs.Common.{◌≡◌, ℕ, if◌then◌else◌, ◌+◌, ◌-◌, ◌<◌, ◌≤◌, ◌==◌, Bool, true, false, not, ◌&&◌, ◌||◌, List, [], ◌∷◌, ◌++◌, length, take, slice_index, chars, nat_le, nat_eq, eqb-true, IsTrue, refl, sym, ◌∙◌, ap, ap₂, subst, arith, append-nil, append_assoc, length-append}
use Rattle.std.specs.List.{list_all, prefix_len}
use Rattle.std.specs.Str.{IsUtf8}
use Rattle.std.proofs.lemmas.Bool.{and_from, and_parts, le-leb}
use Rattle.std.proofs.lemmas.Bool.Decides.{nat_tests}
use Rattle.std.proofs.lemmas.List.{take_all, get_or-append-add, length-take-le}
use Rattle.std.proofs.lemmas.Grind.{flat_map-append}
use Rattle.std.proofs.lemmas.List.Folds.{list_all-append}
use Rattle.std.proofs.lemmas.Str.{chars-append, chars-IsAscii, chars-nil, IsCharBoundary-end, IsUtf8-append, IsUtf8-nil}
use Rattle.std.proofs.lemmas.Str.Ascii.{IsAscii-from_all}
use Rattle.ansi_items.specs.declared.ansitok.Kind.{Kind}
use Rattle.ansi_items.specs.declared.ansitok.Kind.TheVariants.{Sgr}
use Rattle.ansi_items.specs.Sequences.{is_sgr}
use Rattle.ansi_items.specs.Pieces.{Piece, Text, Sequence, LoneEscape, spelling, pieces_of}
use Rattle.ansi_items.specs.Plain.{plain, plain_bytes, plain_of, marks, marks_of, is_whole}
use Rattle.ansi_items.specs.Bytes.{is_plain_byte}
use Rattle.ansi_items.proofs.PlainLemmas.{pieces_of-bare, has_escape-bare, length-plain}
use Rattle.ansi_items.proofs.JoinLemmas.{spelled}
use Rattle.ansi_items.proofs.StepLemmas.{is_mark}
use Rattle.ansi_items.proofs.Utf8Lemmas.{IsUtf8-plain}
use Rattle.ansi_style.specs.declared.state.rendition.Rendition.{Rendition}
use Rattle.ansi_style.specs.Rendition.{plain_style}
use Rattle.ansi_style.specs.Sgr.{apply}
use Rattle.ansi_style.specs.Styled.{style_after}
use Rattle.ansi_style.specs.Written.{close}
use Rattle.ansi_style.proofs.StyledLemmas.{style_through, style_through-append, style_after_from-pieces}
use Rattle.ansi_search.specs.Offsets.{StandsIn}
use Rattle.ansi_search.proofs.OffsetLemmas.{IsOverText, IsOverMark}
use Rattle.ansi_search.proofs.PositionLemmas.{no_character_goes_on-past}
use Rattle.ansi_safe.specs.Safe.{is_printing, is_clean_link, all_allowed, keeps_links, may_stay, is_safe}
use Rattle.ansi_safe.specs.declared.policy.Links.{Links}
use Rattle.ansi_safe.specs.Cells.{cell, is_cell}
use Rattle.ansi_safe.specs.Links.{link_of, opens_link}
use Rattle.ansi_safe.proofs.FrontLemmas.{prefix_len-take}
use Rattle.ansi_safe.proofs.CellTextLemmas.{cell-stays, whole-cell}
use Rattle.ansi_safe.proofs.LinkLemmas.{is_link-sgr, link_of-pieces, link_through}
use Rattle.ansi_clusters.proofs.StepLemmas.{as-least, printable-test}
use Rattle.ansi_clusters.specs.Columns.{clusters, columns, columns_of, bytes_of, FitsUpTo, fitting_end}
use Rattle.ansi_cells.specs.PlainCells.{IsPlainText, last_byte, IsPlainCell}
use Rattle.ansi_cells.specs.declared.shown.Alignment.{Alignment}
use Rattle.ansi_cells.specs.Shown.{has_tail, truncated_end, truncated_width, missing, between_blanks, closing, padded, KeptStays}
use Rattle.ansi_clusters.specs.Letters.{ArePlain, IsPlainFront}
use Rattle.ansi_clusters.specs.declared.views.View.TheVariants.{Given}
use Rattle.ansi_clusters.proofs.AsciiLemmas.{is_printable, All-printable_is_ascii}
use Rattle.ansi_clusters.proofs.FitLemmas.{fitting_end-fits}
use Rattle.ansi_clusters.proofs.LetterLemmas.{front-printable, plain-append, plain-printable}
use Rattle.ansi_cells.proofs.KeptLemmas.{kept-stays}
use Rattle.ansi_cells.proofs.MissingLemmas.{IsLack, lack-of}
use Rattle.ansi_cells.proofs.OneLineLemmas.{printing_are_allowed}
use Rattle.ansi_cells.proofs.PlainTextLemmas.{ArePlainSoFar, plain-columns}
use Rattle.ansi_cells.proofs.ShownLawLemmas.{bytes_of-clusters}
use Rattle.ansi_cells.proofs.ShownLemmas.{IsCutTo, IsCutTo-front, width-fits, ending-closing, padded-between}
use Rattle.ansi_cells.proofs.SliceLemmas.{offset_of-end}
use Rattle.ansi_cells.proofs.TailLemmas.{all-on_line}

-- ---- the pieces

-- a character is no TAB, LF or CR
abbrev is_on_line : ℕ → Bool
is_on_line c = not (c == 9 || (c == 10 || c == 13))

-- the piece is a run of characters that are allowed and on the line, or an SGR
abbrev pub is_plain_piece : Piece → Bool
is_plain_piece (Text w) = all_allowed (chars w) && list_all is_on_line (chars w)
is_plain_piece (Sequence w) = is_sgr w
is_plain_piece LoneEscape = false

sgr-plain : (p : Piece) → is_mark p ≡ true → is_sgr (spelling p) ≡ true → is_plain_piece p ≡ true
sgr-plain (Text w) mark sgr = absurd (cc mark)
sgr-plain (Sequence w) mark sgr = sgr
sgr-plain LoneEscape mark sgr = absurd (cc sgr)

-- such pieces pass a test that such runs and SGRs pass
plain-pass : (test : Piece → Bool) → ((w : List ℕ) → is_plain_piece (Text w) ≡ true → test (Text w) ≡ true) → ((w : List ℕ) → is_sgr w ≡ true → test (Sequence w) ≡ true)
    → (ps : List Piece) → list_all is_plain_piece ps ≡ true → list_all test ps ≡ true
plain-pass test text sgr [] all = refl
plain-pass test text sgr (p ∷ ps) all =
    let both = and_parts (is_plain_piece p) (list_all is_plain_piece ps) all in
    and_from _ _ (by p both.0) (plain-pass test text sgr ps both.1)
  where
    by : (p : Piece) → is_plain_piece p ≡ true → test p ≡ true
    by (Text w) is = text w is
    by (Sequence w) is = sgr w is
    by LoneEscape is = absurd (cc is)

all-printing : (cs : List ℕ) (n : ℕ) → ArePlain cs n → list_all is_printing cs ≡ true
all-printing [] n none = refl
all-printing (c ∷ cs) n all = and_from _ _ all.2.shown.printing (all-printing cs all.1 all.3)

-- characters that are clusters by themselves are such a run
singles-plain : (w : List ℕ) (n : ℕ) → ArePlain (chars w) n → is_plain_piece (Text w) ≡ true
singles-plain w n all = (let printing = all-printing (chars w) n all in and_from _ _ (printing_are_allowed (chars w) printing) (all-on_line (chars w) printing))

-- so is printable ASCII
pub printable-singles : (w : List ℕ) → list_all is_printable w ≡ true → ArePlain (chars w) (length w)
printable-singles w printable =
    subst (λ cs. ArePlain cs (length w)) (sym (chars-IsAscii w (IsAscii-from_all w (All-printable_is_ascii w printable)))) (plain-printable w printable)

pub printable-piece : (w : List ℕ) → list_all is_printable w ≡ true → is_plain_piece (Text w) ≡ true
printable-piece w printable = singles-plain w (length w) (printable-singles w printable)

-- so a text of them stays in a cell
plain-is_cell : (t : List ℕ) → list_all is_plain_piece (pieces_of t) ≡ true → is_cell t ≡ true
plain-is_cell t all = plain-pass _ (λ w stays. stays) (λ w sgr. ap (λ b. b || is_clean_link w) sgr) (pieces_of t) all

plain-stays : (t : List ℕ) → IsUtf8 t → list_all is_plain_piece (pieces_of t) ≡ true → cell t ≡ t
plain-stays t utf8 all = cell-stays t utf8 (plain-is_cell t all)

-- and is safe, whatever is made of links
plain-is_safe : (links : Links) (t : List ℕ) → list_all is_plain_piece (pieces_of t) ≡ true → is_safe links t ≡ true
plain-is_safe links t all = plain-pass (may_stay links) (λ w stays. (and_parts _ _ stays).0) (λ w sgr. ap (λ b. b || (keeps_links links && is_clean_link w)) sgr) (pieces_of t) all

-- ---- a pass over them

-- The pieces passed are SGRs and runs of characters that are clusters by themselves, with this style after them, and this last byte. The runs have this many bytes, and leave this many columns of the width.
pub record IsPlainSoFar (t : List ℕ) (width left : ℕ) (style : Rendition) (last position passed : ℕ) (ps : List Piece) : Type 0 where
  pub front : List Piece
  pub all : pieces_of t ≡ front ++ ps
  pub are_plain : list_all is_plain_piece front ≡ true
  pub bytes : passed ≡ length (spelled front)
  pub utf8 : IsUtf8 (plain_of front)
  pub taken : ℕ
  pub plain : ArePlain (chars (plain_of front)) taken
  pub count : length (plain_of front) ≡ position
  pub sum : taken + left ≡ width
  pub style_is : style ≡ style_through plain_style front
  pub last_is : last ≡ last_byte (plain_of front)

pub plain-begin : (t : List ℕ) (width : ℕ) → IsPlainSoFar t width width plain_style 0 0 0 (pieces_of t)
plain-begin t width = record {
  front = [];
  all = refl;
  are_plain = refl;
  bytes = refl;
  utf8 = IsUtf8-nil;
  taken = 0;
  plain = subst (λ cs. ArePlain cs 0) (sym chars-nil) refl;
  count = refl;
  sum = omega arith;
  style_is = refl;
  last_is = refl;
}

pub plain-more : {t : List ℕ} {width left next passed at position after last last_next : ℕ} {style style_next : Rendition} {ps : List Piece} (p : Piece) (more : ℕ) → IsPlainSoFar t width left style last position passed (p ∷ ps) → is_plain_piece p ≡ true → IsUtf8 (plain_bytes p) → ArePlain (chars (plain_bytes p)) more
    → at ≡ passed + length (spelling p) → after ≡ position + length (plain_bytes p) → more + next ≡ left → style_next ≡ style_through style (p ∷ []) → ((x : List ℕ) → last ≡ last_byte x → last_next ≡ last_byte (x ++ plain_bytes p)) → IsPlainSoFar t width next style_next last_next after at ps
plain-more {ps = ps} p more so_far is_plain p_utf8 singles at_is after_is next_is style_is last_is =
    let front = so_far.front in
    let runs : plain_of (front ++ p ∷ []) ≡ plain_of front ++ plain_bytes p = flat_map-append plain_bytes front (p ∷ []) ∙ ap (λ u. plain_of front ++ u) (append-nil (plain_bytes p)) in
    let cs : chars (plain_of (front ++ p ∷ [])) ≡ chars (plain_of front) ++ chars (plain_bytes p) = ap chars runs ∙ chars-append (plain_of front) (plain_bytes p) so_far.utf8 in
    record {
      front = front ++ p ∷ [];
      all = so_far.all ∙ sym (append_assoc front (p ∷ []) ps);
      are_plain = list_all-append is_plain_piece front (p ∷ []) ∙ and_from _ _ so_far.are_plain (and_from _ _ is_plain refl);
      bytes = omega (arith, at_is, so_far.bytes, ap length (flat_map-append spelling front (p ∷ []) ∙ ap (λ u. spelled front ++ u) (append-nil (spelling p))), length-append (spelled front) (spelling p));
      utf8 = subst IsUtf8 (sym runs) (IsUtf8-append (plain_of front) (plain_bytes p) so_far.utf8 p_utf8);
      taken = so_far.taken + more;
      plain = subst (λ ds. ArePlain ds (so_far.taken + more)) (sym cs) (plain-append (chars (plain_of front)) (chars (plain_bytes p)) so_far.taken more so_far.plain singles);
      count = omega (arith, after_is, so_far.count, ap length runs, length-append (plain_of front) (plain_bytes p));
      sum = omega (arith, next_is, so_far.sum);
      style_is = style_is ∙ ap (λ s. style_through s (p ∷ [])) so_far.style_is ∙ sym (style_through-append plain_style front (p ∷ []));
      last_is = last_is (plain_of front) so_far.last_is ∙ ap last_byte (sym runs);
    }

pub last_byte-append : (x w : List ℕ) → 0 < length w → last_byte w ≡ last_byte (x ++ w)
last_byte-append x w some =
    let place : length (x ++ w) - 1 ≡ length x + (length w - 1) = omega (arith, length-append x w, some) in
    sym (ap (slice_index (x ++ w)) place ∙ get_or-append-add x w (length w - 1) 0)

-- over a run of such characters that fits
pub plain-run : {t w : List ℕ} {width left next passed at position after last last_next columns : ℕ} {style : Rendition} {old ps : List Piece} → IsPlainSoFar t width left style last position passed old → IsOverText t w passed at old ps → IsUtf8 w → IsPlainFront w (length w) columns → columns + next ≡ left
    → after ≡ position + length w → 0 < length w → last_next ≡ last_byte w → IsPlainSoFar t width next style last_next after at ps
plain-run {t} {w} {width} {left} {passed = passed} {position = position} {last = last} {columns = columns} {style = style} so_far over utf8 run next_is after_is some last_is =
    let all : ArePlain (chars w) columns = subst (λ u. ArePlain (chars u) columns) (take_all (length w) w (omega arith)) run.plain in
    plain-more (Text w) columns (subst (IsPlainSoFar t width left style last position passed) over.first so_far) (singles-plain w columns all) utf8 all over.count after_is next_is refl (λ x _. last_is ∙ last_byte-append x w some)

-- over an SGR
sgr-through : (style : Rendition) (p : Piece) → is_mark p ≡ true → (style_through style (p ∷ []) ≡ apply style (spelling p)) × (plain_bytes p ≡ [])
sgr-through style (Text w) mark = absurd (cc mark)
sgr-through style p mark = (refl, refl)

pub plain-sgr : {t w : List ℕ} {width left passed at position last : ℕ} {style next : Rendition} {kind : Kind} {old ps : List Piece} → IsPlainSoFar t width left style last position passed old → IsOverMark kind t w passed at old ps → kind ≡ Sgr → next ≡ apply style w
    → IsPlainSoFar t width left next last position at ps
plain-sgr {t} {w} {width} {left} {passed} {position = position} {last = last} {style = style} so_far over kind next_is =
    let first = over.first in
    let through = sgr-through style first.mark first.is_mark in
    let none = through.1 in
    let nothing : ArePlain (chars (plain_bytes first.mark)) 0 = subst (λ u. ArePlain (chars u) 0) (sym none) (subst (λ cs. ArePlain cs 0) (sym chars-nil) refl) in
    plain-more first.mark 0 (subst (IsPlainSoFar t width left style last position passed) first.pieces so_far) (sgr-plain first.mark first.is_mark (ap is_sgr first.bytes ∙ first.sgr kind)) (subst IsUtf8 (sym none) IsUtf8-nil) nothing
    (omega (arith, over.count, ap length first.bytes)) (omega (arith, ap length none)) (omega arith) (next_is ∙ ap (apply style) (sym first.bytes) ∙ sym through.0)
    (λ x is. is ∙ ap last_byte (sym (ap (λ u. x ++ u) none ∙ append-nil x)))

-- the runs are in the text
pub plain-within : {t : List ℕ} {width left passed position last : ℕ} {style : Rendition} {ps : List Piece} → IsPlainSoFar t width left style last position passed ps → position ≤ length t
plain-within {t} {ps = ps} so_far =
    omega (arith, so_far.count, ap length (ap plain_of so_far.all ∙ flat_map-append plain_bytes so_far.front ps), length-append (plain_of so_far.front) (plain_of ps), length-plain t)

pub run-within : {t w : List ℕ} {width left passed at position last : ℕ} {style : Rendition} {old ps : List Piece} → IsPlainSoFar t width left style last position passed old → IsOverText t w passed at old ps → position + length w ≤ length t
run-within {t} {w} {ps = ps} so_far over =
    let runs = ap plain_of (so_far.all ∙ ap (λ qs. so_far.front ++ qs) over.first) ∙ flat_map-append plain_bytes so_far.front (Text w ∷ ps) in
    omega (arith, so_far.count, ap length runs, length-append (plain_of so_far.front) (w ++ plain_of ps), length-append w (plain_of ps), length-plain t)

-- the same numbers
pub so_far-at : {t : List ℕ} {width left next passed position after last : ℕ} {style : Rendition} {ps : List Piece} → left ≡ next → position ≡ after → IsPlainSoFar t width left style last position passed ps → IsPlainSoFar t width next style last after passed ps
so_far-at {t} {width} {left} {next} {passed} {position} {after} {last} {style} {ps} left_is position_is so_far =
    subst (λ n. IsPlainSoFar t width n style last after passed ps) left_is (subst (λ n. IsPlainSoFar t width left style last n passed ps) position_is so_far)

-- ---- what is open after them

plain-link : (ps : List Piece) → list_all is_plain_piece ps ≡ true → link_through [] ps ≡ []
plain-link [] all = refl
plain-link (Text w ∷ ps) all = plain-link ps (and_parts (is_plain_piece (Text w)) (list_all is_plain_piece ps) all).1
plain-link (Sequence w ∷ ps) all =
    let both = and_parts (is_sgr w) (list_all is_plain_piece ps) all in
    ap (λ b. link_through (if b then (if opens_link w then w else []) else []) ps) (is_link-sgr w both.0) ∙ plain-link ps both.1
plain-link (LoneEscape ∷ ps) all = absurd (cc all)

pub plain-text : {t : List ℕ} {style : Rendition} (ps : List Piece) → IsUtf8 t → pieces_of t ≡ ps → list_all is_plain_piece ps ≡ true → style ≡ style_through plain_style ps → IsPlainText t style
plain-text {t} ps utf8 pieces all style_is = record {
  stays = plain-stays t utf8 (ap (list_all is_plain_piece) pieces ∙ all);
  safe = λ links. plain-is_safe links t (ap (list_all is_plain_piece) pieces ∙ all);
  style_is = style_is ∙ ap (style_through plain_style) (sym pieces) ∙ sym (style_after_from-pieces plain_style t);
  link_is = ap (λ qs. link_of (marks_of qs)) pieces ∙ link_of-pieces ps ∙ plain-link ps all;
}

-- nothing is left
pub plain-end : {t : List ℕ} {width left passed position last : ℕ} {style : Rendition} {old : List Piece} → IsUtf8 t → IsPlainSoFar t width left style last position passed old → old ≡ [] → IsPlainCell t width left style last × (position ≡ length (plain t))
plain-end {t} {passed = passed} {position = position} {old = old} utf8 so_far none =
    let front = so_far.front in
    let pieces : pieces_of t ≡ front = so_far.all ∙ ap (λ ps. front ++ ps) none ∙ append-nil front in
    let text : plain t ≡ plain_of front = ap plain_of pieces in
    let runs : ArePlainSoFar t so_far.taken position passed old = record { front = front; all = so_far.all; bytes = so_far.bytes; utf8 = so_far.utf8; plain = so_far.plain; count = so_far.count } in
    let columns_are : so_far.taken ≡ columns (plain t) = plain-columns Given utf8 runs none in (
      record {
        text = plain-text front utf8 pieces so_far.are_plain so_far.style_is;
        sum = omega (arith, columns_are, so_far.sum);
        utf8 = IsUtf8-plain t utf8;
        singles = subst (ArePlain (chars (plain t))) columns_are (subst (λ u. ArePlain (chars u) so_far.taken) (sym text) so_far.plain);
        last_is = so_far.last_is ∙ ap last_byte (sym text);
      },
      omega (arith, so_far.count, ap length text),
    )

-- a text of printable ASCII alone
pub printable-plain : (w : List ℕ) → list_all is_printable w ≡ true → list_all is_plain_byte w ≡ true
printable-plain [] all = refl
printable-plain (b ∷ w) all =
    let both = and_parts (is_printable b) (list_all is_printable w) all in
    and_from _ _ (one b both.0) (printable-plain w both.1)
  where
    one : (b : ℕ) → is_printable b ≡ true → is_plain_byte b ≡ true
    one b printable = grind (arith, nat_tests)

pub plain-bare : {width left last : ℕ} {style : Rendition} (t : List ℕ) → IsUtf8 t → 0 < length t → list_all is_printable t ≡ true → left + length t ≡ width → style ≡ plain_style → last ≡ last_byte t → IsPlainCell t width left style last
plain-bare [] utf8 some all count style_is last_is = absurd (omega (arith, some))
plain-bare {width} {left} {last} {style} (b ∷ w) utf8 some all count style_is last_is =
    let t = b ∷ w in
    let same : t ++ [] ≡ t = append-nil t in
    let so_far : IsPlainSoFar t width left style last (length t) (length t) [] = record {
      front = Text t ∷ [];
      all = pieces_of-bare t (has_escape-bare t (printable-plain t all));
      are_plain = and_from _ _ (printable-piece t all) refl;
      bytes = ap length (sym same);
      utf8 = subst IsUtf8 (sym same) utf8;
      taken = length t;
      plain = subst (λ u. ArePlain (chars u) (length t)) (sym same) (printable-singles t all);
      count = ap length same;
      sum = omega (arith, count);
      style_is = style_is;
      last_is = last_is ∙ ap last_byte (sym same);
    } in
    (plain-end utf8 so_far refl).0

-- ---- the text truncated

module _ (t : List ℕ) (utf8 : IsUtf8 t) (width : ℕ) (tail : List ℕ) (left : ℕ) (sum : columns (plain t) + left ≡ width) where
  abbrev x : List ℕ
  x = plain t

  all-fit : FitsUpTo x width (length x)
  all-fit =
      let all = take_all (length (clusters x)) (clusters x) (omega arith) in
      record {
        count = length (clusters x);
        boundary = sym (ap bytes_of all ∙ bytes_of-clusters x (IsUtf8-plain t utf8));
        fits = omega (arith, sum, ap columns_of all);
        greatest = λ less. absurd (omega (arith, less));
      }

  -- no tail is written
  no-tail : (truncated_width t width tail ≡ width) × ([] ≡ (if has_tail t width tail then tail else []))
  no-tail = width-fits t tail width (le-leb (columns x) width (omega (arith, sum)))

  end-is : length x ≡ truncated_end t width tail
  end-is = fitting_end-fits all-fit ∙ ap (λ n. fitting_end n (clusters x)) (sym no-tail.0)

  stands : StandsIn t (truncated_end t width tail) (length t)
  stands = subst (λ n. StandsIn t n (length t)) end-is (record {
    good = no_character_goes_on-past x (length x) (omega arith);
    offset = sym (offset_of-end t);
    boundary = IsCharBoundary-end t;
  })

  -- nothing is cut
  pub all-cut : {style : Rendition} → style ≡ style_after t → link_of (marks t) ≡ [] → IsCutTo t width tail t ([] ++ close style) []
  all-cut style_is link_is = IsCutTo-front width tail stands (sym (take_all (length t) t (omega arith))) refl style_is (sym link_is) refl refl no-tail.1

  pub all-lack : IsTrue (is_whole t) → IsLack t width tail left
  all-lack whole =
      let all = append-nil (take (truncated_end t width tail) x) ∙ ap (λ n. take n x) (sym end-is) ∙ take_all (length x) x (omega arith) in
      lack-of t width tail [] left whole no-tail.1 refl (omega (arith, ap columns all, sum))

-- A plain cell truncated is the text, with what closes its style after it.
pub record IsUncut (t : List ℕ) (width left : ℕ) (tail close : List ℕ) : Type 0 where
  pub cut : IsCutTo (cell t) width tail t close []
  pub lack : IsLack (cell t) width tail left
  pub kept : KeptStays t width tail

pub plain-uncut : {t : List ℕ} {width left last : ℕ} {style : Rendition} (tail : List ℕ) → IsUtf8 t → IsPlainCell t width left style last → IsUncut t width left tail ([] ++ close style)
plain-uncut {t} {width} {left} {style = style} tail utf8 is =
    let stays = is.text.stays in
    let whole = subst (λ u. IsTrue (is_whole u)) stays (whole-cell t utf8) in
    record {
      cut = subst (λ u. IsCutTo u width tail t ([] ++ close style) []) (sym stays) (all-cut t utf8 width tail left is.sum is.text.style_is is.text.link_is);
      lack = subst (λ u. IsLack u width tail left) (sym stays) (all-lack t utf8 width tail left is.sum whole);
      kept = kept-stays t width tail utf8 stays;
    }

-- ---- the text padded

-- Padded, it is the text, what closes its style, and as many blanks as it leaves columns.
pub record IsPadded (t : List ℕ) (width left : ℕ) (close : List ℕ) : Type 0 where
  pub lack : left ≡ missing (cell t) width
  pub closes : close ++ [] ≡ closing (cell t)
  pub bytes : (alignment : Alignment) → between_blanks left alignment ((t ++ close) ++ []) ≡ padded (cell t) width alignment

pub plain-padded : {t : List ℕ} {most left last : ℕ} {style : Rendition} (width : ℕ) {blanks : ℕ} → IsPlainCell t most left style last → blanks ≡ width - (most - left) → IsPadded t width blanks ([] ++ close style)
plain-padded {t} {most} {left} {style = style} width {blanks} is blanks_are =
    let stays = is.text.stays in
    let lack : blanks ≡ missing (cell t) width = omega (arith, blanks_are, is.sum, ap (λ u. columns (plain u)) stays) in
    let closes = append-nil ([] ++ close style) ∙ ending-closing (sym stays) is.text.style_is (sym is.text.link_is) refl refl in
    record {
      lack = lack;
      closes = closes;
      bytes = λ alignment. padded-between (cell t) width alignment (append_assoc t ([] ++ close style) [] ∙ ap₂ (λ u v. u ++ v) (sym stays) closes) lack;
    }

-- n bytes are printable if at least that many are at the front
pub printable-front : (n : ℕ) (x : List ℕ) → n ≤ length x → nat_le n (prefix_len is_printable x) ≡ list_all is_printable (take n x)
printable-front n x inside =
    as-least n (prefix_len is_printable x) ∙ ap₂ nat_eq (sym (prefix_len-take is_printable n x)) (sym (length-take-le n x inside)) ∙ printable-test (take n x)

-- printable bytes are such characters
pub printable-run : (w : List ℕ) → IsUtf8 w → list_all is_printable w ≡ true → IsPlainFront w (length w) (length w)
printable-run w utf8 all = front-printable w utf8 (length w) (sym (eqb-true (prefix_len is_printable w) (length w) (printable-test w ∙ all)))
