-- What is kept of a text if its cell is truncated: its cell is the front of the text's cell.
use Rattle.std.proofs.Common.{◌≡◌, ℕ, ◌+◌, ◌-◌, ◌≤◌, inl, inr, Bool, true, false, List, [], ◌∷◌, ◌++◌, length, take, drop, flat_map, slice_range, chars, encode_utf8, encode_utf8_all, nat_le, nat_lt, if◌then◌else◌, IsTrue, refl, sym, ◌∙◌, ap, ap₂, subst, arith, append-nil, append_assoc, length-append}
use lib.Utf8.{scalar, scalars}
use Rattle.std.specs.Str.{IsUtf8, IsCharBoundary}
use Rattle.std.proofs.lemmas.Bool.{and_from, and_parts, cases_lt, le-leb, lt-leb}
use Rattle.std.proofs.lemmas.Grind.{flat_map-append}
use Rattle.std.proofs.lemmas.List.{length-take-le, take_at, take-append-drop}
use Rattle.std.proofs.lemmas.Str.{IsCharBoundary-at_seam, IsUtf8-drop, IsUtf8-take, chars-append, encodes-append, encodes-chars, scalars-chars}
use Rattle.unicode_segmentation.proofs.TextLemmas.{chars-encode_utf8, encode_utf8_nonempty}
use Rattle.ansi_items.specs.Pieces.{Piece, Text, spelling, pieces_of, after_text, merged}
use Rattle.ansi_items.specs.Plain.{plain, plain_bytes, plain_of, is_whole, marks, marks_up_to}
use Rattle.ansi_items.proofs.JoinLemmas.{spelled, spelled-pieces_of, pieces_of-append}
use Rattle.ansi_items.proofs.Utf8Lemmas.{IsUtf8-plain}
use Rattle.ansi_search.specs.Offsets.{bytes_before, offset_of, StandsIn}
use Rattle.ansi_search.specs.Positions.{no_character_goes_on}
use Rattle.ansi_search.proofs.OffsetLemmas.{bytes_before-last, bytes_before-text, plain-after}
use Rattle.ansi_search.proofs.PositionLemmas.{no_character_goes_on-boundary}
use Rattle.ansi_slice.specs.Cut.{interleaved}
use Rattle.ansi_safe.specs.Cells.{cell, cell_char}
use Rattle.ansi_safe.proofs.CellLemmas.{plain_of-merged, plain-cell}
use Rattle.ansi_safe.proofs.CellFrontLemmas.{AreCellParts, BeginsPlain, IsShownFirst, cell-begins, cell-parts, front-stays}
use Rattle.ansi_safe.proofs.CellTextLemmas.{IsUtf8-cell, whole-cell}
use Rattle.ansi_safe.specs.Links.{link_of, link_end}
use Rattle.ansi_style.specs.declared.state.rendition.Rendition.{Rendition}
use Rattle.ansi_style.specs.Styled.{style_after}
use Rattle.ansi_style.specs.Written.{close}
use Rattle.ansi_clusters.specs.declared.views.View.TheVariants.{Shown}
use Rattle.ansi_clusters.specs.declared.walks.Walk.{Walk}
use Rattle.ansi_clusters.specs.Columns.{shown}
use Rattle.ansi_cells.specs.Shown.{has_tail, shown_end, truncated_end, truncated_width, kept, KeptStays}
use Rattle.ansi_clusters.specs.Walks.{after, IsWalkIn, SeesUpTo}
use Rattle.ansi_clusters.proofs.FitLemmas.{fitting_end-fits}
use Rattle.ansi_clusters.proofs.PlaceLemmas.{offset_of-add, offset_of-plain, plain-before}
use Rattle.ansi_cells.proofs.ShownLemmas.{take-interleaved, IsCutTo, IsCutTo-front}
use Rattle.ansi_clusters.proofs.WalkLemmas.{walk_boundary}

-- Where the second of two whole texts in a row begins.

bytes_before-joined : (n : ℕ) (w : List ℕ) (ps : List Piece) → bytes_before n (after_text w ps) ≡ bytes_before n (Text w ∷ ps)
bytes_before-joined n w (Text v ∷ ps) = elim (cases_lt n (length w)) [
  | inl first ↦ bytes_before-last n (w ++ v) ps (omega (arith, first, size)) ∙ sym (bytes_before-last n w (Text v ∷ ps) first)
  | inr within ↦ (
      let second = bytes_before-text n w (Text v ∷ ps) within in
      elim (cases_lt (n - length w) (length v)) [
        | inl last ↦ omega (arith, bytes_before-last n (w ++ v) ps (omega (arith, last, within, size)), second, bytes_before-last (n - length w) v ps last, within)
        | inr past ↦
            let same : n - length (w ++ v) ≡ n - length w - length v = omega (arith, size) in
            omega (
              arith,
              size,
              second,
              bytes_before-text n (w ++ v) ps (omega (arith, size, past, within)),
              bytes_before-text (n - length w) v ps past,
              ap (λ k. bytes_before k ps) same,
            )
      ])
]
  where
    size : length (w ++ v) ≡ length w + length v
    size = length-append w v
bytes_before-joined n w ps = refl

bytes_before-merged : (n : ℕ) (ps : List Piece) → bytes_before n (merged ps) ≡ bytes_before n ps
bytes_before-merged n [] = refl
bytes_before-merged n (Text w ∷ ps) = bytes_before-joined n w (merged ps) ∙ ap (λ k. if nat_lt n (length w) then n else length w + k) (bytes_before-merged (n - length w) ps)
bytes_before-merged n (p ∷ ps) = ap (λ k. length (spelling p) + k) (bytes_before-merged n ps)

pub bytes_before-append : (ps qs : List Piece) → bytes_before (length (plain_of ps)) (ps ++ qs) ≡ length (spelled ps) + bytes_before 0 qs
bytes_before-append [] qs = omega arith
bytes_before-append (Text w ∷ ps) qs =
    let size = length-append w (plain_of ps) in
    let left : length (w ++ plain_of ps) - length w ≡ length (plain_of ps) = omega (arith, size) in
    omega (
      arith,
      bytes_before-text (length (w ++ plain_of ps)) w (ps ++ qs) (omega (arith, size)),
      ap (λ k. bytes_before k (ps ++ qs)) left,
      bytes_before-append ps qs,
      length-append w (spelled ps),
    )
bytes_before-append (p ∷ ps) qs = omega (arith, bytes_before-append ps qs, length-append (spelling p) (spelled ps))

bytes_before-within : (n : ℕ) (ps : List Piece) → bytes_before n ps ≤ length (spelled ps)
bytes_before-within n [] = omega arith
bytes_before-within n (Text w ∷ ps) = elim (cases_lt n (length w)) [
  | inl last ↦ omega (arith, last, bytes_before-last n w ps last, length-append w (spelled ps))
  | inr within ↦ omega (arith, bytes_before-text n w ps within, bytes_before-within (n - length w) ps, length-append w (spelled ps))
]
bytes_before-within n (p ∷ ps) = omega (arith, bytes_before-within n ps, length-append (spelling p) (spelled ps))

offset_of-second : (u v : List ℕ) → IsTrue (is_whole u) → IsTrue (is_whole v) → offset_of (u ++ v) (length (plain u)) ≡ length u + offset_of v 0
offset_of-second u v first second =
    let n = length (plain u) in
    ap (bytes_before n) (pieces_of-append u v first second) ∙ bytes_before-merged n (pieces_of u ++ pieces_of v) ∙ bytes_before-append (pieces_of u) (pieces_of v)
    ∙ ap (λ x. length x + offset_of v 0) (spelled-pieces_of u)

-- their plain text
pub plain-append : (u v : List ℕ) → IsTrue (is_whole u) → IsTrue (is_whole v) → plain (u ++ v) ≡ plain u ++ plain v
plain-append u v first second = ap plain_of (pieces_of-append u v first second) ∙ plain_of-merged (pieces_of u ++ pieces_of v) ∙ flat_map-append plain_bytes (pieces_of u) (pieces_of v)

-- where a text is plain at the beginning
offset_of-begins : (v : List ℕ) → BeginsPlain v → offset_of v 0 ≡ 0
offset_of-begins [] begins = refl
offset_of-begins (b ∷ v) begins = offset_of-plain b v begins

-- The byte after characters that are shown, if the next one is.

shown_end-none : (ds : List ℕ) → IsShownFirst ds → shown_end 0 ds ≡ 0
shown_end-none [] first = refl
shown_end-none (d ∷ ds) first =
    let k = length (encode_utf8_all (cell_char d)) in
    ap (λ b. if b then length (encode_utf8 d) + shown_end (0 - k) ds else 0) (lt-leb k 0 first)

shown_end-front : (cs ds : List ℕ) → IsShownFirst ds → shown_end (length (encode_utf8_all (flat_map cell_char cs))) (cs ++ ds) ≡ length (encode_utf8_all cs)
shown_end-front [] ds first = shown_end-none ds first
shown_end-front (c ∷ cs) ds first =
    let k = length (encode_utf8_all (cell_char c)) in
    let m = length (encode_utf8_all (flat_map cell_char cs)) in
    let n = length (encode_utf8_all (flat_map cell_char (c ∷ cs))) in
    let size : n ≡ k + m = ap length (encodes-append (cell_char c) (flat_map cell_char cs)) ∙ length-append (encode_utf8_all (cell_char c)) (encode_utf8_all (flat_map cell_char cs)) in
    let left : n - k ≡ m = omega (arith, size) in
    ap (λ b. if b then length (encode_utf8 c) + shown_end (n - k) (cs ++ ds) else 0) (le-leb k n (omega (arith, size)))
    ∙ ap (λ i. length (encode_utf8 c) + shown_end i (cs ++ ds)) left ∙ ap (λ i. length (encode_utf8 c) + i) (shown_end-front cs ds first)
    ∙ sym (length-append (encode_utf8 c) (encode_utf8_all cs))

-- ---- a text in two at a character boundary of its plain text

module _ (t : List ℕ) (utf8 : IsUtf8 t) (e : ℕ) (boundary : IsCharBoundary (plain t) e) where
  abbrev x : List ℕ
  x = plain t

  abbrev front : List ℕ
  front = take (offset_of t e) t

  abbrev rest : List ℕ
  rest = drop (offset_of t e) t

  good : IsTrue (no_character_goes_on x e)
  good = no_character_goes_on-boundary x e boundary

  parts : AreCellParts t front rest
  parts = cell-parts t e utf8 good

  x_utf8 : IsUtf8 x
  x_utf8 = IsUtf8-plain t utf8

  first_utf8 : IsUtf8 (take e x)
  first_utf8 = IsUtf8-take x e x_utf8 boundary

  -- the front, as a cut has it
  front-is : front ≡ interleaved x 0 e (marks_up_to e (marks t))
  front-is =
      let within : offset_of t e ≤ length t = omega (arith, bytes_before-within e (pieces_of t), ap length (spelled-pieces_of t)) in
      let size : length front ≡ offset_of t e = length-take-le (offset_of t e) t within in
      take-interleaved (record {
        good = good;
        offset = refl;
        boundary = subst (IsCharBoundary t) size (IsCharBoundary-at_seam t front rest (sym (take-append-drop (offset_of t e) t)) parts.second);
      })

  -- where it is shown up to the boundary, and the next character is
  shown_end-at : IsShownFirst (after t e) → shown_end (length (shown (take e x))) (chars x) ≡ e
  shown_end-at first =
      let all : chars x ≡ chars (take e x) ++ after t e = ap chars (sym (take-append-drop e x)) ∙ chars-append (take e x) (drop e x) first_utf8 in
      ap (shown_end (length (shown (take e x)))) all ∙ shown_end-front (chars (take e x)) (after t e) first
      ∙ ap length (encodes-chars (take e x) first_utf8) ∙ length-take-le e x boundary.0

  -- the front of its cell
  plain-front : plain (cell front) ≡ shown (take e x)
  plain-front = plain-cell front parts.first ∙ ap shown (plain-before t e)

  offset-front : IsShownFirst (after t e) → offset_of (cell t) (length (shown (take e x))) ≡ length (cell front)
  offset-front first =
      let here : e ≡ e + 0 = omega arith in
      let begins : offset_of rest 0 ≡ 0 = omega (arith, ap (offset_of t) here, offset_of-add t e 0) in
      let next : IsShownFirst (chars (plain rest)) = subst (λ y. IsShownFirst (chars y)) (sym (plain-after t e)) first in
      ap₂ (λ u n. offset_of u n) parts.cells (sym (ap length plain-front))
      ∙ offset_of-second (cell front) (cell rest) (whole-cell front parts.first) (whole-cell rest parts.second)
      ∙ omega (arith, offset_of-begins (cell rest) (cell-begins rest parts.second begins next))

  cell-front : cell front ≡ take (length (cell front)) (cell t)
  cell-front = sym (ap (take (length (cell front))) parts.cells ∙ take_at (cell front) (cell rest) (length (cell front)) refl)

  good-front : IsTrue (no_character_goes_on (plain (cell t)) (length (shown (take e x))))
  good-front =
      let all : plain (cell t) ≡ plain (cell front) ++ plain (cell rest)
      = ap plain parts.cells ∙ plain-append (cell front) (cell rest) (whole-cell front parts.first) (whole-cell rest parts.second) in
      no_character_goes_on-boundary (plain (cell t)) (length (shown (take e x)))
      (subst (IsCharBoundary (plain (cell t))) (ap length plain-front)
      (IsCharBoundary-at_seam (plain (cell t)) (plain (cell front)) (plain (cell rest)) all (IsUtf8-plain (cell rest) (IsUtf8-cell rest parts.second))))

  stands-front : IsShownFirst (after t e) → StandsIn (cell t) (length (shown (take e x))) (length (cell front))
  stands-front first = record {
    good = good-front;
    offset = sym (offset-front first);
    boundary = IsCharBoundary-at_seam (cell t) (cell front) (cell rest) parts.cells (IsUtf8-cell rest parts.second);
  }

-- ---- where a walk has come to the end of what fits

-- more is shown before the next boundary, so the next character is
next-shown : (t : List ℕ) {width e : ℕ} → IsUtf8 t → IsCharBoundary (plain t) e → SeesUpTo Shown t width e → IsShownFirst (after t e)
next-shown t {e = e} utf8 boundary sees =
    let x_utf8 = IsUtf8-plain t utf8 in
    let rest_utf8 = IsUtf8-drop (plain t) e x_utf8 boundary in
    by (after t e) (sym (encodes-chars (drop e (plain t)) rest_utf8)) (scalars-chars (drop e (plain t)) rest_utf8) (IsUtf8-take (plain t) e x_utf8 boundary)
  where
    by : (cs : List ℕ) → drop e (plain t) ≡ encode_utf8_all cs → scalars cs ≡ true → IsUtf8 (take e (plain t)) → IsShownFirst cs
    by [] spelled are front = tt
    by (c ∷ cs) spelled are front =
        let x = plain t in
        let w = encode_utf8 c in
        let both = and_parts (scalar c) (scalars cs) are in
        let all : x ≡ (take e x ++ w) ++ encode_utf8_all cs = sym (take-append-drop e x) ∙ ap (λ u. take e x ++ u) spelled ∙ sym (append_assoc (take e x) w (encode_utf8_all cs)) in
        let size : length (take e x ++ w) ≡ e + length w = length-append (take e x) w ∙ ap (λ n. n + length w) (length-take-le e x boundary.0) in
        let next : IsCharBoundary x (e + length w) = subst (IsCharBoundary x) size (IsCharBoundary-at_seam x (take e x ++ w) (encode_utf8_all cs) all (cs, (both.1, refl))) in
        let longer : take (e + length w) x ≡ take e x ++ w = ap (take (e + length w)) all ∙ take_at (take e x ++ w) (encode_utf8_all cs) (e + length w) size in
        let one : IsUtf8 w = (c ∷ [], (and_from _ _ both.0 refl, append-nil w)) in
        let more : shown (take (e + length w) x) ≡ shown (take e x) ++ encode_utf8_all (cell_char c)
        = ap shown longer ∙ ap (λ ds. encode_utf8_all (flat_map cell_char ds)) (chars-append (take e x) w front ∙ ap (λ ds. chars (take e x) ++ ds) (chars-encode_utf8 c one))
        ∙ ap encode_utf8_all (flat_map-append cell_char (chars (take e x)) (c ∷ []) ∙ ap (λ ds. flat_map cell_char (chars (take e x)) ++ ds) (append-nil (cell_char c)))
        ∙ encodes-append (flat_map cell_char (chars (take e x))) (cell_char c) in
        omega (arith, sees.greatest (e + length w) next (omega (arith, encode_utf8_nonempty c)), ap length more, length-append (shown (take e x)) (encode_utf8_all (cell_char c)))

module _ (t : List ℕ) (utf8 : IsUtf8 t) (w : Walk) (walk : IsWalkIn Shown t w) (width : ℕ) (tail : List ℕ) (sees : SeesUpTo Shown t (truncated_width (cell t) width tail) w.position) where
  boundary : IsCharBoundary (plain t) w.position
  boundary = walk_boundary t utf8 w walk

  first : IsShownFirst (after t w.position)
  first = next-shown t utf8 boundary sees

  end-is : length (shown (take w.position (plain t))) ≡ truncated_end (cell t) width tail
  end-is = fitting_end-fits sees.fits

  kept-front : take w.offset t ≡ kept t width tail
  kept-front =
      let place : shown_end (truncated_end (cell t) width tail) (chars (plain t)) ≡ w.position
      = ap (λ n. shown_end n (chars (plain t))) (sym end-is) ∙ shown_end-at t utf8 w.position boundary first in
      ap (λ i. take i t) walk.offset ∙ front-is t utf8 w.position boundary ∙ ap (λ i. interleaved (plain t) 0 i (marks_up_to i (marks t))) (sym place)

  kept-cell : cell (take w.offset t) ≡ take (length (cell (take w.offset t))) (cell t)
  kept-cell = subst (λ i. cell (take i t) ≡ take (length (cell (take i t))) (cell t)) (sym walk.offset) (cell-front t utf8 w.position boundary)

  kept-stands : StandsIn (cell t) (truncated_end (cell t) width tail) (length (cell (take w.offset t)))
  kept-stands =
      subst (λ i. StandsIn (cell t) (truncated_end (cell t) width tail) (length (cell (take i t)))) (sym walk.offset)
      (subst (λ n. StandsIn (cell t) n (length (cell (take (offset_of t w.position) t)))) end-is (stands-front t utf8 w.position boundary first))

pub kept-part : (t : List ℕ) → IsUtf8 t → (w : Walk) {part : List ℕ} (width : ℕ) (tail : List ℕ) → IsWalkIn Shown t w → SeesUpTo Shown t (truncated_width (cell t) width tail) w.position → part ≡ slice_range t 0 w.offset → part ≡ kept t width tail
kept-part t utf8 w width tail walk sees is =
    let count : w.offset - 0 ≡ w.offset = omega arith in
    is ∙ ap (λ n. take n t) count ∙ kept-front t utf8 w walk width tail sees

-- what the code has: the front of the text, and the front of its cell, which is cut
pub record IsTruncatedTo (t : List ℕ) (width : ℕ) (tail part front close after : List ℕ) : Type 0 where
  pub kept : part ≡ kept t width tail
  pub cut : IsCutTo (cell t) width tail front close after

pub truncated-front : (t : List ℕ) → IsUtf8 t → (w : Walk) {part front a link ending after : List ℕ} {style last : Rendition} (width : ℕ) (tail : List ℕ) → IsWalkIn Shown t w → SeesUpTo Shown t (truncated_width (cell t) width tail) w.position
    → part ≡ slice_range t 0 w.offset → front ≡ cell part → a ≡ front → style ≡ style_after a → link ≡ link_of (marks a)
    → ending ≡ link_end link → last ≡ style → after ≡ (if has_tail (cell t) width tail then tail else []) → IsTruncatedTo t width tail part front (ending ++ close last) after
truncated-front t utf8 w {part} {front} width tail walk sees part_is front_is same style_is link_is ending_is last_is tail_is =
    let count : w.offset - 0 ≡ w.offset = omega arith in
    let is : part ≡ take w.offset t = part_is ∙ ap (λ n. take n t) count in
    let whole : front ≡ cell (take w.offset t) = front_is ∙ ap cell is in
    record {
      kept = kept-part t utf8 w width tail walk sees part_is;
      cut = IsCutTo-front width tail (kept-stands t utf8 w walk width tail sees) (whole ∙ kept-cell t utf8 w walk width tail sees) same style_is link_is ending_is last_is tail_is;
    }

-- ---- a text that stays as it is in a cell

-- characters up to the byte at which the next one is shown
record IsShownEnd (n : ℕ) (cs : List ℕ) : Type 0 where
  before : List ℕ
  others : List ℕ
  all : cs ≡ before ++ others
  count : shown_end n cs ≡ length (encode_utf8_all before)

is_shown_end : (n : ℕ) (cs : List ℕ) → IsShownEnd n cs
is_shown_end n [] = record { before = []; others = []; all = refl; count = refl }
is_shown_end n (c ∷ cs) = by (nat_le (length (encode_utf8_all (cell_char c))) n) refl (is_shown_end (n - length (encode_utf8_all (cell_char c))) cs)
  where
    k : ℕ
    k = length (encode_utf8_all (cell_char c))

    by : (b : Bool) → nat_le k n ≡ b → IsShownEnd (n - k) cs → IsShownEnd n (c ∷ cs)
    by false is later = record { before = []; others = c ∷ cs; all = refl; count = ap (λ b. if b then length (encode_utf8 c) + shown_end (n - k) cs else 0) is }
    by true is later = record {
      before = c ∷ later.before;
      others = later.others;
      all = ap (λ u. c ∷ u) later.all;
      count = ap (λ b. if b then length (encode_utf8 c) + shown_end (n - k) cs else 0) is ∙ ap (λ i. length (encode_utf8 c) + i) later.count
          ∙ sym (length-append (encode_utf8 c) (encode_utf8_all later.before));
    }

-- so what is kept of it does
pub kept-stays : (t : List ℕ) (width : ℕ) (tail : List ℕ) → IsUtf8 t → cell t ≡ t → KeptStays t width tail
unfolding KeptStays
kept-stays t width tail utf8 stays =
    let x = plain t in
    let x_utf8 = IsUtf8-plain t utf8 in
    let end = is_shown_end (truncated_end (cell t) width tail) (chars x) in
    let e = shown_end (truncated_end (cell t) width tail) (chars x) in
    let spelled : x ≡ encode_utf8_all end.before ++ encode_utf8_all end.others = sym (encodes-chars x x_utf8) ∙ ap encode_utf8_all end.all ∙ encodes-append end.before end.others in
    let others : IsUtf8 (encode_utf8_all end.others) = (end.others, (scalars-after end.before end.others (ap scalars (sym end.all) ∙ scalars-chars x x_utf8), refl)) in
    let boundary : IsCharBoundary x e = subst (IsCharBoundary x) (sym end.count) (IsCharBoundary-at_seam x (encode_utf8_all end.before) (encode_utf8_all end.others) spelled others) in
    subst (λ u. cell u ≡ u) (front-is t utf8 e boundary) (front-stays t e utf8 (no_character_goes_on-boundary x e boundary) stays)
  where
    scalars-after : (cs ds : List ℕ) → scalars (cs ++ ds) ≡ true → scalars ds ≡ true
    scalars-after [] ds are = are
    scalars-after (c ∷ cs) ds are = scalars-after cs ds (and_parts (scalar c) (scalars (cs ++ ds)) are).1
