-- Slices of texts of cells of ASCII: each byte of the plain text has one column, so an edge is a place, and one pass finds the offsets of both and the pens there.
use Rattle.std.proofs.Common.{◌≡◌, ◌≢◌, ℕ, zero, suc, ◌+◌, ◌-◌, ◌<◌, ◌≤◌, ◌==◌, ◌⊎◌, inl, inr, Bool, true, false, not, ◌&&◌, ◌||◌, List, [], ◌∷◌, ◌++◌, length, map, take, drop, slice_range, nat_le, nat_lt, if◌then◌else◌, Option, Some, None, IsTrue, refl, sym, ◌∙◌, ap, ap₂, subst, arith, length-append}
use Rattle.std.specs.List.{list_all}
use Rattle.std.specs.Str.{IsAscii, IsUtf8, IsCharBoundary}
use Rattle.std.proofs.lemmas.Bool.{and_parts, and_from, or_right, cases_lt, le-leb, lt-leb, lt-ltb, le-ltb, leb-true, ltb-true, eq-eqb, ne_eqb}
use Rattle.std.proofs.lemmas.Bool.Decides.{nat_tests}
use Rattle.std.proofs.lemmas.List.{take_at, drop_at, length-take, length-drop, length-take-le}
use Rattle.std.proofs.lemmas.Str.Ascii.{IsAscii-nil}
use Rattle.ansi_items.proofs.JoinLemmas.{spelled, spelled-pieces_of}
use Rattle.std.proofs.lemmas.List.Folds.{list_all-append}
use Rattle.std.proofs.lemmas.Str.{chars-IsAscii, IsAscii-take, IsAscii-drop, IsAscii-append, IsUtf8-from_ascii, IsCharBoundary-from_ascii}
use Rattle.ansi_items.specs.declared.ansitok.Kind.{Kind}
use Rattle.ansi_items.specs.declared.ansitok.Kind.TheVariants.{Sgr}
use Rattle.ansi_items.specs.declared.ansitok.Item.{Item}
use Rattle.ansi_items.specs.Pieces.{Piece, Text, Sequence, LoneEscape, spelling, pieces_of}
use Rattle.ansi_items.specs.Plain.{plain, plain_bytes, plain_of, marks, marks_up_to}
use Rattle.ansi_items.specs.Scans.{Scan, GivesItem, pieces_left, piece_of}
use Rattle.ansi_items.proofs.PlainLemmas.{length-plain}
use Rattle.ansi_items.proofs.StepLemmas.{is_mark, BeginsWithMark, gives_rest}
use Rattle.ansi_style.specs.declared.state.rendition.Rendition.{Rendition}
use Rattle.ansi_style.specs.Rendition.{plain_style, has_any}
use Rattle.ansi_style.specs.Sgr.{apply}
use Rattle.ansi_style.specs.States.{rendition_of}
use Rattle.ansi_style.specs.Styled.{style_at}
use Rattle.ansi_style.specs.Written.{start, close}
use Rattle.ansi_style.proofs.MarkLemmas.{state_by_marks, state_by_marks-before, state_by_marks-text, state_by_marks-mark}
use Rattle.ansi_style.proofs.SgrLemmas.{apply-no_sgr}
use Rattle.ansi_search.specs.Offsets.{offset_of, bytes_before}
use Rattle.ansi_search.specs.Positions.{no_character_goes_on}
use Rattle.ansi_search.proofs.OffsetLemmas.{IsOverText, IsOverMark, IsPassed, passed-begin, passed-text, passed-mark, bytes_before-last}
use Rattle.ansi_search.proofs.PositionLemmas.{no_character_goes_on-boundary}
use Rattle.ansi_search.proofs.SliceLemmas.{list_all-parts}
use Rattle.ansi_slice.specs.Cut.{interleaved}
use Rattle.ansi_slice.specs.Kept.{kept}
use Rattle.ansi_split.specs.Parts.{marks_past}
use Rattle.ansi_safe.specs.Cells.{cell}
use Rattle.ansi_safe.specs.Safe.{is_printing, may_stay}
use Rattle.ansi_safe.specs.declared.policy.Links.TheVariants.{Keep}
use Rattle.ansi_safe.specs.Links.{opens_link, link_after, link_at, link_end, link_of, pen_close}
use Rattle.ansi_safe.proofs.CellTextLemmas.{cell-stays}
use Rattle.ansi_safe.proofs.FrontLemmas.{printable-ascii}
use Rattle.ansi_safe.proofs.LinkLemmas.{is_link-sgr, link_of-fold}
use Rattle.ansi_cells.specs.declared.slices.Parts.{Parts}
use Rattle.ansi_clusters.specs.Columns.{clusters, cluster_width, columns_of, columns, bytes_of}
use Rattle.ansi_clusters.specs.Lines.{blanks}
use Rattle.ansi_clusters.specs.Walks.{clusters_after}
use Rattle.ansi_cells.specs.Slices.{ended, begun, has_no_column, column_place, bytes_from, bytes_up_to, blanks_before, blanks_after, opened_at, pen_open, slice_opening, slice_middle, slice_closing, sliced_up_to, is_pen_plain, AreParts, AreAsciiParts, is_ascii_piece, IsShownCell}
use Rattle.ansi_clusters.proofs.AsciiLemmas.{is_printable, columns-printable, width-single}
use Rattle.ansi_cells.proofs.EdgeLemmas.{ended-pass, begun-pass}
use Rattle.ansi_cells.proofs.PlainCellLemmas.{printable-piece}
use Rattle.ansi_clusters.proofs.PlaceLemmas.{marks-before}
use Rattle.ansi_cells.proofs.ShownLawLemmas.{clusters-printable, bytes_of-clusters}
use Rattle.ansi_cells.proofs.SliceLemmas.{IsOpenedAt, text-ordered, kept-text, good-text, length-parts, link-within, offset_of-end}

-- ---- the pens on the way

-- How far a pass over t has come: each later plain byte has its pen by this one and the pieces that are left.
pub record IsPenSoFar (t : List ℕ) (place : ℕ) (style : Rendition) (link : List ℕ) (left : List Piece) : Type 0 where
  pub styled : (n : ℕ) → state_by_marks apply style left n ≡ style_at t (place + n)
  pub linked : (n : ℕ) → state_by_marks link_after link left n ≡ link_at t (place + n)

pub pen-begin : (t : List ℕ) → IsPenSoFar t 0 plain_style [] (pieces_of t)
pen-begin t = record {
  styled = λ n. (let same : n ≡ 0 + n = omega arith in ap (style_at t) same);
  linked = λ n. (let same : n ≡ 0 + n = omega arith in sym (link_of-fold (marks_up_to n (marks t))) ∙ ap (link_at t) same);
}

-- over a run
pub pen-text : {t w : List ℕ} {place : ℕ} {style : Rendition} {link : List ℕ} {old ps : List Piece} → IsPenSoFar t place style link old → old ≡ Text w ∷ ps → IsPenSoFar t (place + length w) style link ps
pen-text {t} {w} {place} {style} {link} {ps = ps} so_far first =
    let here = subst (IsPenSoFar t place style link) first so_far in
    record {
      styled = λ n. (let sum : place + (length w + n) ≡ place + length w + n = omega arith in sym (state_by_marks-text apply style w ps n) ∙ here.styled (length w + n) ∙ ap (style_at t) sum);
      linked = λ n. (let sum : place + (length w + n) ≡ place + length w + n = omega arith in sym (state_by_marks-text link_after link w ps n) ∙ here.linked (length w + n) ∙ ap (link_at t) sum);
    }

pen-mark : {t : List ℕ} {place : ℕ} {style : Rendition} {link : List ℕ} {p : Piece} {ps : List Piece} → IsPenSoFar t place style link (p ∷ ps) → is_mark p ≡ true → IsPenSoFar t place (apply style (spelling p)) (link_after link (spelling p)) ps
pen-mark {style = style} {link} {p} {ps} here mark = record {
  styled = λ n. sym (state_by_marks-mark apply style p ps n mark) ∙ here.styled n;
  linked = λ n. sym (state_by_marks-mark link_after link p ps n mark) ∙ here.linked n;
}

pen-sequence : {t w : List ℕ} {place : ℕ} {style : Rendition} {link : List ℕ} {kind : Kind} {old ps : List Piece} → IsPenSoFar t place style link old → BeginsWithMark kind w old ps → IsPenSoFar t place (apply style w) (link_after link w) ps
pen-sequence {t} {w} {place} {style} {link} {ps = ps} so_far mark =
    subst (λ v. IsPenSoFar t place (apply style v) (link_after link v) ps) mark.bytes (pen-mark (subst (IsPenSoFar t place style link) mark.pieces so_far) mark.is_mark)

-- over an SGR
pub pen-sgr : {t w : List ℕ} {place : ℕ} {style next : Rendition} {link : List ℕ} {kind : Kind} {old ps : List Piece} → IsPenSoFar t place style link old → BeginsWithMark kind w old ps → kind ≡ Sgr → next ≡ apply style w → IsPenSoFar t place next link ps
pen-sgr {t} {w} {place} {style} {next} {link} {ps = ps} so_far mark kind next_is =
    let none : link_after link w ≡ link = ap (λ b. if b then (if opens_link w then w else []) else link) (is_link-sgr w (mark.sgr kind)) in
    subst (λ l. IsPenSoFar t place next l ps) none (subst (λ s. IsPenSoFar t place s (link_after link w) ps) (sym next_is) (pen-sequence so_far mark))

-- over another sequence
pub pen-other : {t w : List ℕ} {place : ℕ} {style : Rendition} {link next : List ℕ} {kind : Kind} {old ps : List Piece} → IsPenSoFar t place style link old → BeginsWithMark kind w old ps → kind ≢ Sgr → next ≡ link_after link w → IsPenSoFar t place style next ps
pen-other {t} {w} {place} {style} {link} {ps = ps} so_far mark kind next_is =
    subst (λ l. IsPenSoFar t place style l ps) (sym next_is) (subst (λ s. IsPenSoFar t place s (link_after link w) ps) (apply-no_sgr style w (mark.no_sgr kind)) (pen-sequence so_far mark))

-- at a byte of the run that is next
pub pen-here : {t w : List ℕ} {place : ℕ} {style : Rendition} {link : List ℕ} {old ps : List Piece} (n : ℕ) → IsPenSoFar t place style link old → old ≡ Text w ∷ ps → n < length w → (style ≡ style_at t (place + n)) × (link ≡ link_at t (place + n))
pen-here {t} {w} {place} {style} {link} {ps = ps} n so_far first last =
    let here = subst (IsPenSoFar t place style link) first so_far in
    (sym (state_by_marks-before apply style w ps n last) ∙ here.styled n, sym (state_by_marks-before link_after link w ps n last) ∙ here.linked n)

-- at the end
pen-end : {t : List ℕ} {place : ℕ} {style : Rendition} {link : List ℕ} {old : List Piece} → IsPenSoFar t place style link old → old ≡ [] → (style ≡ style_at t place) × (link ≡ link_at t place)
pen-end {t} {place} {style} {link} so_far none =
    let here = subst (IsPenSoFar t place style link) none so_far in
    let same : place + 0 ≡ place = omega arith in
    (here.styled 0 ∙ ap (style_at t) same, here.linked 0 ∙ ap (link_at t) same)

-- ---- the plain text

-- pieces that stay pass a test that printable ASCII and sequences that may stay pass
pass : (test : Piece → Bool) → ((w : List ℕ) → list_all is_printable w ≡ true → test (Text w) ≡ true) → ((w : List ℕ) → may_stay Keep (Sequence w) ≡ true → test (Sequence w) ≡ true)
    → (ps : List Piece) → list_all is_ascii_piece ps ≡ true → list_all test ps ≡ true
pass test text sequence [] all = refl
pass test text sequence (p ∷ ps) all =
    let both = and_parts (is_ascii_piece p) (list_all is_ascii_piece ps) all in
    and_from _ _ (by p both.0) (pass test text sequence ps both.1)
  where
    by : (p : Piece) → is_ascii_piece p ≡ true → test p ≡ true
    by (Text w) is = text w is
    by (Sequence w) is = sequence w is
    by LoneEscape is = absurd (cc is)

-- so a text of them stays in a cell
pub ascii-stays : (t : List ℕ) → IsUtf8 t → list_all is_ascii_piece (pieces_of t) ≡ true → cell t ≡ t
ascii-stays t utf8 all = cell-stays t utf8 (pass _ printable-piece (λ w stays. stays) (pieces_of t) all)

-- and its plain text is printable ASCII
plain-printable : (ps : List Piece) → list_all is_ascii_piece ps ≡ true → list_all is_printable (plain_of ps) ≡ true
plain-printable [] all = refl
plain-printable (p ∷ ps) all =
    let both = and_parts (is_ascii_piece p) (list_all is_ascii_piece ps) all in
    list_all-append is_printable (plain_bytes p) (plain_of ps) ∙ and_from _ _ (by p both.0) (plain-printable ps both.1)
  where
    by : (p : Piece) → is_ascii_piece p ≡ true → list_all is_printable (plain_bytes p) ≡ true
    by (Text w) is = is
    by (Sequence w) is = refl
    by LoneEscape is = refl

-- if the first piece stays, the others decide
pub stays-past : {t : List ℕ} {stays : Bool} {old new : Scan} {item : Item} → stays ≡ list_all is_ascii_piece (pieces_left old) → GivesItem old item new → old.text ≡ t → is_ascii_piece (piece_of t item) ≡ true → stays ≡ list_all is_ascii_piece (pieces_left new)
stays-past {new = new} {item} decides gives same first =
    decides ∙ ap (list_all is_ascii_piece) gives.piece ∙ ap (λ c. c && list_all is_ascii_piece (pieces_left new)) (ap (λ u. is_ascii_piece (piece_of u item)) same ∙ first)

-- the clusters of printable ASCII

abbrev singles : List ℕ → List (List ℕ)
singles cs = map (λ c. c ∷ []) cs

-- n of them end before the column n, and begin before it
first-singles : (n : ℕ) (cs : List ℕ) → list_all is_printable cs ≡ true → (ended n (singles cs) ≡ singles (take n cs)) × (begun n (singles cs) ≡ singles (take n cs))
first-singles zero [] all = (refl, refl)
first-singles zero (c ∷ cs) all = (refl, refl)
first-singles (suc n) [] all = (refl, refl)
first-singles (suc n) (c ∷ cs) all =
    let both = and_parts (is_printable c) (list_all is_printable cs) all in
    let one = width-single c both.0 in
    let left : suc n - cluster_width (c ∷ []) ≡ n = omega (arith, one) in
    let more = first-singles n cs both.1 in (
      ended-pass (suc n) (c ∷ []) (singles cs) (omega arith) (omega (arith, one)) ∙ ap (λ m. (c ∷ []) ∷ ended m (singles cs)) left ∙ ap (λ ks. (c ∷ []) ∷ ks) more.0,
      begun-pass (suc n) (c ∷ []) (singles cs) (omega arith) ∙ ap (λ m. (c ∷ []) ∷ begun m (singles cs)) left ∙ ap (λ ks. (c ∷ []) ∷ ks) more.1,
    )

module _ (x : List ℕ) (all : list_all is_printable x ≡ true) where
  ascii : IsAscii x
  ascii = printable-ascii x all

  clusters-are : clusters x ≡ singles x
  clusters-are = ap (clusters_after []) (chars-IsAscii x ascii) ∙ clusters-printable [] x all

  bytes-are : bytes_of (singles x) ≡ length x
  bytes-are = ap bytes_of (sym clusters-are) ∙ bytes_of-clusters x (IsUtf8-from_ascii x ascii)

  columns-are : columns_of (singles x) ≡ length x
  columns-are = ap columns_of (sym clusters-are) ∙ columns-printable x all

module _ (x : List ℕ) (all : list_all is_printable x ≡ true) (n : ℕ) (within : n ≤ length x) where
  front_all : list_all is_printable (take n x) ≡ true
  front_all = (list_all-parts is_printable n x all).0

  count : length (take n x) ≡ n
  count = length-take-le n x within

  ended-are : ended n (clusters x) ≡ singles (take n x)
  ended-are = ap (ended n) (clusters-are x all) ∙ (first-singles n x all).0

  begun-are : begun n (clusters x) ≡ singles (take n x)
  begun-are = ap (begun n) (clusters-are x all) ∙ (first-singles n x all).1

  place-is : column_place x n ≡ n
  place-is = ap bytes_of ended-are ∙ bytes-are (take n x) front_all ∙ count

  pub from-is : bytes_from x n ≡ n
  from-is = ap bytes_of begun-are ∙ bytes-are (take n x) front_all ∙ count

  pub begun-columns : columns_of (begun n (clusters x)) ≡ n
  begun-columns = ap columns_of begun-are ∙ columns-are (take n x) front_all ∙ count

  ended-columns : columns_of (ended n (clusters x)) ≡ n
  ended-columns = ap columns_of ended-are ∙ columns-are (take n x) front_all ∙ count

-- the end of a slice up to the column b
pub end-of : (x : List ℕ) (all : list_all is_printable x ≡ true) (a b e : ℕ) → a ≤ length x → a < b → columns x ≡ length x → ((b < length x) × (e ≡ b)) ⊎ ((length x ≤ b) × (e ≡ length x)) → (bytes_up_to x b ≡ e) × (blanks_after x a b ≡ 0)
end-of x all a b e here ordered columns_x place = elim place [
  | inl before ↦
      let within : b ≤ length x = omega (arith, before.0) in
      let wide : nat_le (columns x) b ≡ false = lt-leb (columns x) b (omega (arith, before.0, columns_x)) in
      let there : column_place x b ≡ b = place-is x all b within in
      let whole = ended-columns x all b within in (
        ap (λ c. if c then length x else column_place x b) wide ∙ there ∙ sym before.1,
        ap (λ c. if c || nat_lt (column_place x b) (bytes_from x a) then 0 else b - columns_of (ended b (clusters x))) wide
            ∙ ap (λ c. if c then 0 else b - columns_of (ended b (clusters x))) (le-ltb (column_place x b) (bytes_from x a) (omega (arith, there, from-is x all a here, ordered)))
            ∙ omega (arith, whole),
      )
  | inr past ↦
      let fits : nat_le (columns x) b ≡ true = le-leb (columns x) b (omega (arith, past.0, columns_x)) in (
        ap (λ c. if c then length x else column_place x b) fits ∙ sym past.1,
        ap (λ c. if c || nat_lt (column_place x b) (bytes_from x a) then 0 else b - columns_of (ended b (clusters x))) fits,
      )
]

-- a text of a cell of ASCII
pub record IsAsciiCell (t : List ℕ) : Type 0 where
  pub ascii : IsAscii t
  pub stay : list_all is_ascii_piece (pieces_of t) ≡ true

-- an item and what follows it stay
pub ascii-cell : {t rest : List ℕ} {old new : Scan} {item : Item} → IsAscii t → list_all is_ascii_piece (pieces_of t) ≡ list_all is_ascii_piece (pieces_left new) → GivesItem old item new → old.text ≡ t → rest ≡ drop item.end t → list_all is_ascii_piece (pieces_of rest) ≡ true
    → IsAsciiCell t
ascii-cell ascii decides gives same rest_is rest = record { ascii = ascii; stay = decides ∙ ap (list_all is_ascii_piece) (sym (gives_rest gives same rest_is)) ∙ rest }

ascii-plain : (ps : List Piece) → IsAscii (spelled ps) → IsAscii (plain_of ps)
ascii-plain [] low = IsAscii-nil
ascii-plain (p ∷ ps) low =
    let first : IsAscii (spelling p) = subst IsAscii (take_at (spelling p) (spelled ps) (length (spelling p)) refl) (IsAscii-take (spelling p ++ spelled ps) (length (spelling p)) low) in
    let rest : IsAscii (spelled ps) = subst IsAscii (drop_at (spelling p) (spelled ps) (length (spelling p)) refl) (IsAscii-drop (spelling p ++ spelled ps) (length (spelling p)) low) in
    by p first (ascii-plain ps rest)
  where
    by : (p : Piece) → IsAscii (spelling p) → IsAscii (plain_of ps) → IsAscii (plain_of (p ∷ ps))
    by (Text w) first rest = IsAscii-append w (plain_of ps) first rest
    by p first rest = rest

printable-byte : (c : ℕ) → c < 128 → is_printing c ≡ true → is_printable c ≡ true
printable-byte c low prints = grind (arith, nat_tests)

printable-all : (x : List ℕ) → IsAscii x → list_all is_printing x ≡ true → list_all is_printable x ≡ true
printable-all [] low prints = refl
printable-all (c ∷ x) low prints =
    let both = and_parts (is_printing c) (list_all is_printing x) prints in
    and_from _ _ (printable-byte c (low 0) both.0) (printable-all x (λ i. low (suc i)) both.1)

-- a text of a cell, of ASCII
known : (ps : List Piece) → list_all is_printable (plain_of ps) ≡ true → list_all (may_stay Keep) ps ≡ true → list_all is_ascii_piece ps ≡ true
known [] prints stays = refl
known (p ∷ ps) prints stays =
    let both = and_parts (may_stay Keep p) (list_all (may_stay Keep) ps) stays in
    let parts = and_parts _ _ (sym (list_all-append is_printable (plain_bytes p) (plain_of ps)) ∙ prints) in
    and_from _ _ (by p parts.0 both.0) (known ps parts.1 both.1)
  where
    by : (p : Piece) → list_all is_printable (plain_bytes p) ≡ true → may_stay Keep p ≡ true → is_ascii_piece p ≡ true
    by (Text w) prints stays = prints
    by (Sequence w) prints stays = stays
    by LoneEscape prints stays = stays

pub ascii-known : {t : List ℕ} → IsAscii t → IsShownCell t → IsAsciiCell t
ascii-known {t} low shown =
    let ascii_x : IsAscii (plain t) = ascii-plain (pieces_of t) (subst IsAscii (sym (spelled-pieces_of t)) low) in
    let prints = printable-all (plain t) ascii_x (sym (ap (list_all is_printing) (chars-IsAscii (plain t) ascii_x)) ∙ shown.prints) in
    record { ascii = low; stay = known (pieces_of t) prints shown.safe }

cell-printable : {t : List ℕ} → IsAsciiCell t → list_all is_printable (plain t) ≡ true
cell-printable {t} is = plain-printable (pieces_of t) is.stay

-- ---- where a slice begins and ends

-- the pen is opened at the column a
abbrev pub IsOpened : List ℕ → ℕ → ℕ → Rendition → List ℕ → Type 0
IsOpened t a from style link =
    ((a ≡ 0) × (from ≡ 0) × (style ≡ plain_style) × (link ≡ []))
    ⊎ ((0 < a) × (from ≡ offset_of t a) × (style ≡ style_at t a) × (link ≡ link_at t a))

-- the slice ends at the place e, for the column b
pub record IsClosedAt (t : List ℕ) (b e to : ℕ) (style : Rendition) (link : List ℕ) : Type 0 where
  pub place : ((b < length (plain t)) × (e ≡ b)) ⊎ ((length (plain t) ≤ b) × (e ≡ length (plain t)))
  pub offset : to ≡ offset_of t e
  pub style_is : style ≡ style_at t e
  pub link_is : link ≡ link_at t e

module _ {t : List ℕ} {a b from e to : ℕ} {style style' : Rendition} {link link' : List ℕ} (is_cell : IsAsciiCell t) (ordered : a < b) (inside : a < length (plain t)) (opens : IsOpened t a from style link) (closes : IsClosedAt t b e to style' link') where
  abbrev x : List ℕ
  x = plain t

  all : list_all is_printable x ≡ true
  all = cell-printable is_cell

  here : a ≤ length x
  here = omega (arith, inside)

  abbrev opened : Option ℕ
  opened = opened_at x a

  columns_x : columns x ≡ length x
  columns_x = columns-printable x all

  end : (e ≡ bytes_up_to x b) × (blanks_after x a b ≡ 0) × (a ≤ e) × (e ≤ length x)
  end = (let is = end-of x all a b e here ordered columns_x closes.place in (sym is.0, is.1, elim closes.place [ inl before ↦ omega (arith, before.1, ordered) | inr past ↦ omega (arith, past.1, inside) ], elim closes.place [ inl before ↦ omega (arith, before.0, before.1) | inr past ↦ omega (arith, past.1) ]))

  at-front : a ≡ 0 → opened ≡ None
  at-front zero_is = ap (λ c. if c then None else Some (column_place x a)) (eq-eqb a 0 zero_is)

  at-place : 0 < a → opened ≡ Some a
  at-place some = ap (λ c. if c then None else Some (column_place x a)) (ne_eqb a 0 (λ zero_is. omega (arith, zero_is, some))) ∙ ap Some (place-is x all a here)

  opened_is : IsOpenedAt t opened a from
  opened_is = elim opens [
    | inl none ↦ inl (at-front none.0, none.0, none.1)
    | inr some ↦ inr (at-place some.0, some.1)
  ]

  pen_is : (start style ++ link ≡ pen_open t opened) × ((not (has_any style) && length link == 0) ≡ is_pen_plain t opened)
  pen_is = elim opens [
    | inl none ↦ (
      ap₂ (λ s l. start s ++ l) none.2 none.3 ∙ sym (ap (pen_open t) (at-front none.0)),
      ap₂ (λ s l. not (has_any s) && length l == 0) none.2 none.3 ∙ sym (ap (is_pen_plain t) (at-front none.0)),
    )
    | inr some ↦ (
      ap₂ (λ s l. start s ++ l) some.2 some.3 ∙ sym (ap (pen_open t) (at-place some.0)),
      ap₂ (λ s l. not (has_any s) && length l == 0) some.2 some.3 ∙ sym (ap (is_pen_plain t) (at-place some.0)),
    )
  ]

  pub slice-ordered : from ≤ to
  slice-ordered = text-ordered t opened a from e to opened_is end.2 end.3 closes.offset

  -- so it begins at a character boundary
  pub slice-boundary : to ≤ length t → IsCharBoundary t from
  slice-boundary within = IsCharBoundary-from_ascii t from is_cell.ascii (omega (arith, slice-ordered, within))

  link-length : length link + length (slice_range t from to) ≤ length t
  link-length = elim opens [
    | inl none ↦ omega (arith, ap length none.3, length-take (to - from) (drop from t), length-drop from t)
    | inr some ↦ omega (arith, link-within t from to, ap length (some.3 ∙ sym (ap (λ n. link_of (marks (take n t))) some.1 ∙ ap link_of (marks-before t a))))
  ]

  pub ascii-parts : (parts : Parts) → rendition_of parts.opened.style ≡ style → parts.opened.link.now ≡ link → rendition_of parts.closed.style ≡ style' → parts.closed.link.now ≡ link' → parts.text.now ≡ slice_range t from to
      → parts.before ≡ 0 → parts.hidden ≡ 0 → parts.after ≡ 0 → AreAsciiParts t a b parts
  unfolding sliced_up_to
  ascii-parts parts opened_style opened_link closed_style closed_link text_is before_is hidden_is after_is =
      let text = slice_range t from to in
      let e_is = end.0 in
      let none : has_no_column x a b ≡ false = ap₂ (λ c d. c || d) (lt-leb b a ordered) (lt-leb (columns x) a (omega (arith, inside, columns_x))) in
      let same : a - a ≡ 0 = omega arith in
      let blanks_before_is : blanks_before x a b ≡ 0 = (let c = begun-columns x all a here in omega (arith, c)) in
      let middle : kept parts.text.now parts.hidden (length (plain parts.text.now)) ≡ slice_middle t a b
      = ap₂ (λ u n. kept u n (length (plain u))) text_is (hidden_is ∙ sym same) ∙ kept-text t opened a from e to opened_is end.2 end.3 closes.offset a (omega arith)
      ∙ ap₂ (λ i j. interleaved x i j (marks_past opened (marks_up_to j (marks t)))) (sym (from-is x all a here)) e_is in
      let close_is : link_end parts.closed.link.now ++ close (rendition_of parts.closed.style) ≡ pen_close t (bytes_up_to x b)
      = ap₂ (λ l s. link_end l ++ close s) (closed_link ∙ closes.link_is) (closed_style ∙ closes.style_is) ∙ ap (pen_close t) e_is in
      let open_is : start (rendition_of parts.opened.style) ++ parts.opened.link.now ≡ pen_open t opened = ap₂ (λ s l. start s ++ l) opened_style opened_link ∙ pen_is.0 in
      let is_plain : (not (has_any (rendition_of parts.opened.style)) && length parts.opened.link.now == 0) ≡ is_pen_plain t opened
      = ap₂ (λ s l. not (has_any s) && length l == 0) opened_style opened_link ∙ pen_is.1 in
      let good : IsTrue (no_character_goes_on (plain text) (a - a))
      = good-text t opened a from e to opened_is end.2 end.3 closes.offset a (omega arith) (no_character_goes_on-boundary x a (IsCharBoundary-from_ascii x a (ascii x all) here)) in
      let blanks_are : parts.before ≡ blanks_before x a b = before_is ∙ sym blanks_before_is in
      let after : parts.after ≡ blanks_after x a b = after_is ∙ sym end.1 in
      let are : AreParts t a b parts = record {
        some = none;
        whole = record {
          good = subst (λ u. IsTrue (no_character_goes_on (plain u) parts.hidden)) (sym text_is) (subst (λ n. IsTrue (no_character_goes_on (plain text) n)) (same ∙ sym hidden_is) good);
          shown = λ _. hidden_is;
          within = inl (omega (arith, hidden_is));
        };
        bytes = ap₂ (λ u v. u ++ v) (ap₂ (λ u v. u ++ v) (ap₂ (λ u n. u ++ blanks n) open_is blanks_are) middle) (ap₂ (λ n u. blanks n ++ u) after close_is)
            ∙ sym (ap (λ c. if c then [] else slice_opening t a b ++ slice_middle t a b ++ slice_closing t a b) none);
        alone = ap₂ (λ c d. c && d) (ap₂ (λ c d. c && d) (ap₂ (λ c n. c && n == 0) is_plain blanks_are) (ap (λ n. n == 0) after)) (ap (λ u. length u == 0) close_is)
            ∙ sym (ap (λ c. c || (is_pen_plain t opened && blanks_before x a b == 0 && blanks_after x a b == 0 && length (pen_close t (bytes_up_to x b)) == 0)) none);
        len = length-parts parts t (omega (arith, link-length, ap length opened_link, ap length text_is)) (ap₂ (λ m n. m + n) blanks_are after);
      } in
      record { parts_are = are; none_before = before_is; none_after = after_is }

-- no column is from a on
pub ascii-none : {t : List ℕ} {a : ℕ} (b : ℕ) → IsAsciiCell t → length (plain t) ≤ a → has_no_column (plain t) a b ≡ true
ascii-none {t} {a} b is_cell past = or_right (nat_le b a) (nat_le (columns (plain t)) a) (le-leb (columns (plain t)) a (omega (arith, past, columns-printable (plain t) (cell-printable is_cell))))

-- ---- a pass over the pieces

-- How far a pass to both edges has come, and what is known of the first one if it isn't ahead.
pub record IsSliceSoFar (t : List ℕ) (a b from place passed : ℕ) (opened : Rendition) (opened_link : List ℕ) (style : Rendition) (link : List ℕ) (left : List Piece) : Type 0 where
  pub before_end : place ≤ b
  pub passed_is : IsPassed t place passed left
  pub pen : IsPenSoFar t place style link left
  pub found : (a ≡ 0) ⊎ (a < place) → IsOpened t a from opened opened_link

pub slice-begin : (t : List ℕ) (a b : ℕ) → IsSliceSoFar t a b 0 0 0 plain_style [] plain_style [] (pieces_of t)
slice-begin t a b = record {
  before_end = omega arith;
  passed_is = passed-begin t;
  pen = pen-begin t;
  found = λ known. elim known [
    | inl zero_is ↦ inl (zero_is, refl, refl, refl)
    | inr less ↦ absurd (omega (arith, less))
  ];
}

module _ {t w : List ℕ} {a b from place passed at : ℕ} {opened style : Rendition} {opened_link link : List ℕ} {old ps : List Piece} (so_far : IsSliceSoFar t a b from place passed opened opened_link style link old) (over : IsOverText t w passed at old ps) where
  -- the offset of a byte of the run
  place-offset : (n : ℕ) → place ≤ n → n - place < length w → passed + (n - place) ≡ offset_of t n
  place-offset n after last =
      let sum : place + (n - place) ≡ n = omega (arith, after) in
      sym (ap (offset_of t) (sym sum) ∙ so_far.passed_is.offset (n - place) ∙ ap (λ k. passed + k) (ap (bytes_before (n - place)) over.first ∙ bytes_before-last (n - place) w ps last))

  place-pen : (n : ℕ) → place ≤ n → n - place < length w → (style ≡ style_at t n) × (link ≡ link_at t n)
  place-pen n after last =
      let sum : place + (n - place) ≡ n = omega (arith, after) in
      let here = pen-here (n - place) so_far.pen over.first last in
      (here.0 ∙ ap (style_at t) sum, here.1 ∙ ap (link_at t) sum)

  run-within : place + length w ≤ length (plain t)
  run-within = omega (arith, so_far.passed_is.count, ap (λ qs. length (plain_of qs)) over.first, length-append w (plain_of ps))

  abbrev pub IsInRun : Bool
  IsInRun = nat_lt 0 a && nat_le place a && nat_lt a (place + length w)

  -- the first edge is in the run
  pub found-here : {next : ℕ} → IsInRun ≡ true → next ≡ passed → (a ≡ 0) ⊎ (a < place + length w) → IsOpened t a (next + (a - place)) style link
  found-here test next_is known =
      let both = and_parts (nat_lt 0 a && nat_le place a) (nat_lt a (place + length w)) test in
      let front = and_parts (nat_lt 0 a) (nat_le place a) both.0 in
      let after = leb-true place a front.1 in
      let last : a - place < length w = omega (arith, ltb-true a (place + length w) both.1, after) in
      let pen = place-pen a after last in
      inr (ltb-true 0 a front.0, ap (λ n. n + (a - place)) next_is ∙ place-offset a after last, pen.0, pen.1)

  -- it isn't
  pub found-stays : IsInRun ≡ false → (a ≡ 0) ⊎ (a < place + length w) → IsOpened t a from opened opened_link
  found-stays other known = so_far.found (elim known [
    | inl zero_is ↦ inl zero_is
    | inr less ↦ elim (cases_lt a place) [
      | inl before ↦ inr before
      | inr after ↦ elim (cases_lt 0 a) [
        | inl some ↦ absurd (cc (sym other ∙ and_from _ _ (and_from _ _ (lt-ltb 0 a some) (le-leb place a after)) (lt-ltb a (place + length w) less)))
        | inr none ↦ inl (omega (arith, none))
      ]
    ]
  ])

  -- the last edge is past it
  pub slice-text : {from' : ℕ} {opened' : Rendition} {opened_link' : List ℕ} → length w ≤ b - place → ((a ≡ 0) ⊎ (a < place + length w) → IsOpened t a from' opened' opened_link')
      → IsSliceSoFar t a b from' (place + length w) at opened' opened_link' style link ps
  slice-text past found = record {
    before_end = omega (arith, past, so_far.before_end);
    passed_is = passed-text so_far.passed_is over;
    pen = pen-text so_far.pen over.first;
    found = found;
  }

  -- the last edge is in it
  pub closed-here : {next : ℕ} → b - place < length w → next ≡ passed → IsClosedAt t b b (next + (b - place)) style link
  closed-here last next_is =
      let pen = place-pen b so_far.before_end last in
      record {
        place = inl (omega (arith, last, run-within, so_far.before_end), refl);
        offset = ap (λ n. n + (b - place)) next_is ∙ place-offset b so_far.before_end last;
        style_is = pen.0;
        link_is = pen.1;
      }

  pub run-fits : place + length w ≤ length t
  run-fits = omega (arith, run-within, length-plain t)

  pub run-end : {next : ℕ} → b - place < length w → next ≡ passed → next + (b - place) ≤ length t
  run-end last next_is = omega (arith, last, next_is, over.count, over.within)

  pub inside-here : a < b → b - place < length w → (a < length (plain t)) × (a < place + length w)
  inside-here ordered last = (omega (arith, ordered, last, run-within, so_far.before_end), omega (arith, ordered, last, so_far.before_end))

-- over a mark
pub slice-mark : {t w : List ℕ} {a b from place passed at : ℕ} {opened style next : Rendition} {opened_link link next_link : List ℕ} {kind : Kind} {old ps : List Piece} → IsSliceSoFar t a b from place passed opened opened_link style link old
    → IsOverMark kind t w passed at old ps → IsPenSoFar t place next next_link ps → IsSliceSoFar t a b from place at opened opened_link next next_link ps
slice-mark so_far over pen = record { before_end = so_far.before_end; passed_is = passed-mark so_far.passed_is over; pen = pen; found = so_far.found }

-- the last edge is at the end, or past it
pub closed-end : {t : List ℕ} {a b from place passed : ℕ} {opened style : Rendition} {opened_link link : List ℕ} {old : List Piece} → IsSliceSoFar t a b from place passed opened opened_link style link old → old ≡ []
    → (place ≡ length (plain t)) × IsClosedAt t b (length (plain t)) (length t) style link
closed-end {t} {place = place} so_far none =
    let all : place ≡ length (plain t) = omega (arith, so_far.passed_is.count, ap (λ qs. length (plain_of qs)) none) in
    let pen = pen-end so_far.pen none in (
      all,
      record {
        place = inr (omega (arith, all, so_far.before_end), refl);
        offset = sym (offset_of-end t);
        style_is = pen.0 ∙ ap (style_at t) all;
        link_is = pen.1 ∙ ap (link_at t) all;
      },
    )
