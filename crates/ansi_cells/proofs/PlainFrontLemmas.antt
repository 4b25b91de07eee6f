-- The front of a text of a cell that is SGRs and characters that are clusters by themselves, up to a run: the walk there, what of the run stays too, and where the text is cut if it goes on past the width.
use Rattle.std.proofs.Common.{◌≡◌, ◌≢◌, ℕ, Bool, zero, suc, ◌+◌, ◌-◌, ◌<◌, ◌≤◌, inl, inr, true, false, List, [], ◌∷◌, ◌++◌, length, take, drop, slice_index, slice_range, chars, nat_le, if◌then◌else◌, Some, refl, sym, ◌∙◌, ap, ap₂, subst, arith, append_assoc, length-append, take-add, take-append-drop}
use Rattle.std.specs.List.{list_all}
use Rattle.std.specs.Str.{IsUtf8, IsAscii, IsCharBoundary}
use Rattle.std.proofs.Math.Seq.{drop-cons}
use Rattle.std.proofs.lemmas.Bool.{and_from, and_parts, cases_lt, lt-leb}
use Rattle.std.proofs.lemmas.Grind.{flat_map-append}
use Rattle.std.proofs.lemmas.List.{take_all, length-drop, drop_at, drop-drop, drop-take, take-append-le, take-take}
use Rattle.std.proofs.lemmas.List.Folds.{list_all-append}
use Rattle.std.proofs.lemmas.List.Sums.{sum_by-append}
use Rattle.std.proofs.lemmas.Str.{encodes-chars, IsUtf8-append, IsUtf8-from_ascii, IsUtf8-take}
use Rattle.std.proofs.lemmas.Str.Ascii.{IsAscii-from_all}
use Rattle.unicode_segmentation.specs.Grapheme.{is_grapheme_break}
use Rattle.ansi_items.specs.declared.ansitok.Item.{Item}
use Rattle.ansi_items.specs.declared.ansitok.Kind.TheVariants.{Text as TextKind}
use Rattle.ansi_items.specs.Bytes.{is_plain_byte}
use Rattle.ansi_items.specs.Pieces.{Piece, Text, Sequence, LoneEscape, spelling, StandsBefore, ArePieces, pieces_of}
use Rattle.ansi_items.specs.Plain.{plain, plain_bytes, plain_of}
use Rattle.ansi_items.specs.Scans.{Scan, GivesItem, pieces_left}
use Rattle.ansi_items.proofs.JoinLemmas.{spelled}
use Rattle.ansi_items.proofs.PieceLemmas.{pieces_are, pieces_of-unique}
use Rattle.ansi_items.proofs.PlainLemmas.{one_text, one_text_are}
use Rattle.ansi_style.specs.declared.state.rendition.Rendition.{Rendition}
use Rattle.ansi_style.specs.Rendition.{plain_style}
use Rattle.ansi_style.specs.Written.{close}
use Rattle.ansi_style.proofs.StyledLemmas.{style_through, style_through-append}
use Rattle.ansi_search.proofs.OffsetLemmas.{IsOverText, over_text, take-after}
use Rattle.ansi_search.proofs.SliceLemmas.{list_all-parts}
use Rattle.ansi_safe.specs.Cells.{cell}
use Rattle.ansi_clusters.specs.declared.views.View.{View}
use Rattle.ansi_clusters.specs.declared.views.View.TheVariants.{Shown}
use Rattle.ansi_clusters.specs.declared.walks.Walk.{Walk}
use Rattle.ansi_clusters.specs.BreakStates.{break_state_of}
use Rattle.ansi_clusters.specs.Columns.{clusters, cluster_width, columns_of, columns, FitsUpTo}
use Rattle.std.specs.Prelude.{MatchOption}
use Rattle.ansi_style.specs.States.{rendition_of}
use Rattle.ansi_safe.proofs.CellTextLemmas.{HasPieces}
use Rattle.ansi_cells.specs.declared.plain_cells.PlainFront.{PlainFront}
use Rattle.ansi_cells.specs.PlainCells.{IsPlainText, IsAtRun, IsWholeFront, IsFront, IsPlainBefore, IsPlainCut}
use Rattle.ansi_cells.specs.Shown.{has_tail, truncated_width, KeptStays}
use Rattle.ansi_clusters.specs.Views.{seen, seen_text, seen_len}
use Rattle.ansi_clusters.specs.Walks.{seen_clusters, IsWalkIn, IsNext, IsPrintable, IsPrintableFront, IsPastAscii, AreClustersIn, IsFittingTo, SeesUpTo, walk_at_run}
use Rattle.ansi_clusters.proofs.AsciiLemmas.{is_printable, printable-below_7F, All-printable_is_ascii, width-single}
use Rattle.ansi_clusters.proofs.ColumnLemmas.{fitting-before, fitting-begin, sees-up_to}
use Rattle.ansi_clusters.proofs.FitLemmas.{fitting-columns}
use Rattle.ansi_clusters.proofs.LetterLemmas.{plain-bound}
use Rattle.ansi_cells.proofs.FrontRunLemmas.{IsPlainPart, plain-part, run-bytes, run-walk-in}
use Rattle.ansi_cells.proofs.KeptLemmas.{truncated-front}
use Rattle.ansi_cells.proofs.MissingLemmas.{IsLack, lack-beside}
use Rattle.ansi_cells.proofs.NearCellLemmas.{part-near, so_far-near}
use Rattle.ansi_cells.proofs.PlainCellLemmas.{is_plain_piece, IsPlainSoFar, plain-text, printable-piece}
use Rattle.ansi_cells.proofs.PlainTextLemmas.{EndPlain, ends-at, ends-printable, fitting-plain, state-front}
use Rattle.ansi_clusters.proofs.PrintableLemmas.{slice_range-take, next-ascii, all-index, front-size, printable-at, columns-past, fitting-past, front-fewer, IsPrintable-front}
use Rattle.ansi_cells.proofs.ShownLemmas.{IsCutTo}
use Rattle.ansi_clusters.proofs.ViewLemmas.{seen-printable}

-- ---- the text up to a byte of the run

first_byte : (n : ℕ) (rest : List ℕ) → take n rest ≢ [] → (rest ≢ []) × (slice_index (take n rest) 0 ≡ slice_index rest 0)
first_byte n rest some = grind arith

stands-before : (p : Piece) (rest : List ℕ) (n : ℕ) → is_plain_piece p ≡ true → StandsBefore p rest → StandsBefore p (take n rest)
stands-before (Text w) rest n is stands = (stands.0, stands.1, λ some. (let first = first_byte n rest some in first.1 ∙ stands.2 first.0))
stands-before (Sequence w) rest n is stands = stands
stands-before LoneEscape rest n is stands = absurd (cc is)

front-are : (t : List ℕ) (front : List Piece) (w : List ℕ) (n : ℕ) (ps : List Piece) → ArePieces t (front ++ Text w ∷ ps) → list_all is_plain_piece front ≡ true → n ≤ length w → ArePieces (take (length (spelled front) + n) t) (front ++ one_text (take n w))
front-are t [] w n ps are all within =
    let here : take (0 + n) t ≡ take n w = ap₂ take (omega arith) are.1 ∙ take-append-le n w are.0 within in
    subst (λ u. ArePieces u (one_text (take n w))) (sym here) (one_text_are (take n w) (list_all-parts is_plain_byte n w are.2.1).0)
front-are t (p ∷ front) w n ps are all within =
    let both = and_parts (is_plain_piece p) (list_all is_plain_piece front) all in
    let m = length (spelled front) + n in
    let count : length (spelling p ++ spelled front) + n ≡ length (spelling p) + m = omega (arith, length-append (spelling p) (spelled front)) in
    (take m are.0, ap₂ take count are.1 ∙ take-after (spelling p) are.0 m, stands-before p are.0 m both.0 are.2, front-are are.0 front w n ps are.3 both.1 within)

-- and up to a later one
cut-are : (t : List ℕ) (front : List Piece) (k : ℕ) (ps : List Piece) → ArePieces t (front ++ ps) → list_all is_plain_piece front ≡ true
    → ArePieces (take (length (spelled front) + k) t) (front ++ pieces_of (take k (drop (length (spelled front)) t)))
cut-are t [] k ps are all =
    let same : take k t ≡ take (0 + k) t = (let n : k ≡ 0 + k = omega arith in ap (λ j. take j t) n) in
    subst (λ u. ArePieces u (pieces_of (take k t))) same (pieces_are (take k t))
cut-are t (p ∷ front) k ps are all =
    let both = and_parts (is_plain_piece p) (list_all is_plain_piece front) all in
    let m = length (spelled front) + k in
    let count : length (spelling p ++ spelled front) + k ≡ length (spelling p) + m = omega (arith, length-append (spelling p) (spelled front)) in
    let dropped : drop (length (spelled front)) are.0 ≡ drop (length (spelling p ++ spelled front)) t
    = sym (ap₂ drop (length-append (spelling p) (spelled front)) are.1 ∙ sym (drop-drop (length (spelled front)) (length (spelling p)) (spelling p ++ are.0)) ∙ ap (drop (length (spelled front))) (drop_at (spelling p) are.0 (length (spelling p)) refl)) in (
      take m are.0,
      ap₂ take count are.1 ∙ take-after (spelling p) are.0 m,
      stands-before p are.0 m both.0 are.2,
      subst (λ u. ArePieces (take m are.0) (front ++ pieces_of (take k u))) dropped (cut-are are.0 front k ps are.3 both.1),
    )

one_text-plain : (x : List ℕ) → list_all is_printable x ≡ true → list_all is_plain_piece (one_text x) ≡ true
one_text-plain [] all = refl
one_text-plain (b ∷ x) all = and_from _ _ (printable-piece (b ∷ x) all) refl

one_text-through : (style : Rendition) (x : List ℕ) → style_through style (one_text x) ≡ style
one_text-through style [] = refl
one_text-through style (b ∷ x) = refl

-- ---- the walk at the run

walk-at : {t w : List ℕ} {width left passed at position last : ℕ} {style : Rendition} (more : List ℕ) (ps : List Piece) (v : Walk) → IsUtf8 t → IsPlainSoFar t width left style last position passed (Text (w ++ more) ∷ ps) → IsPlainPart t w passed at → 0 < length w
    → v ≡ walk_at_run position passed at → IsAtRun t width left style v
walk-at {t} {w} {width} {left} {passed} {at} {style = style} more ps v utf8 so_far bytes some is =
    let front = so_far.front in
    let run = w ++ more in
    let x = plain_of front in
    let y = run ++ plain_of ps in
    let n = so_far.taken in
    let offset : v.offset ≡ passed = ap (λ (u : Walk). u.offset) is in
    let run_end : v.run_end ≡ at = ap (λ (u : Walk). u.run_end) is in
    let text : plain t ≡ x ++ y = ap plain_of so_far.all ∙ flat_map-append plain_bytes front (Text run ∷ ps) in
    let place : v.position ≡ length x = ap (λ (u : Walk). u.position) is ∙ sym so_far.count in
    let taken = run-bytes bytes offset in
    let inside : (n : ℕ) → v.offset + n ≤ v.run_end → n ≤ length w = λ n within. omega (arith, within, bytes.count, offset, run_end) in
    let part : (n : ℕ) → IsPrintableFront t v n → list_all is_printable (take n w) ≡ true
    = λ n front. ap (list_all is_printable) (sym (slice_range-take t v.offset n ∙ taken n (inside n front.within))) ∙ front.bytes in
    let state = state-front Shown t utf8 x y n text so_far.utf8 so_far.plain in
    let walk = run-walk-in Shown more ps front v so_far.all state so_far.bytes bytes some place offset run_end (ap (λ (u : Walk). u.break_state) is) in
    let fits : EndPlain (seen Shown (chars y)) → IsFittingTo Shown t width v.position left
    = λ ends. subst (λ n. IsFittingTo Shown t width n left) (sym place) (fitting-plain t utf8 x y n text so_far.utf8 so_far.plain ends so_far.sum) in
    record {
      is_walk = walk;
      front = λ n printed.
          let within = inside n printed.within in
          let whole : take (v.offset + n) t ≡ take v.offset t ++ take n w = take-add v.offset n t ∙ ap (λ u. take v.offset t ++ u) (taken n within) in
          let utf8_to : IsUtf8 (take v.offset t) = IsUtf8-take t v.offset utf8 (subst (IsCharBoundary t) (sym offset) bytes.begins) in
          let ascii : IsAscii (take n w) = IsAscii-from_all (take n w) (All-printable_is_ascii (take n w) (part n printed)) in
          let are = front-are t front run n ps (subst (ArePieces t) so_far.all (pieces_are t)) so_far.are_plain (omega (arith, within, length-append w more)) in
          let same : take n run ≡ take n w = take-append-le n w more within in
          let i : length (spelled front) + n ≡ v.offset + n = omega (arith, offset, so_far.bytes) in
          plain-text (front ++ one_text (take n w)) (subst IsUtf8 (sym whole) (IsUtf8-append (take v.offset t) (take n w) utf8_to (IsUtf8-from_ascii (take n w) ascii)))
          (sym (pieces_of-unique _ _ (subst (λ i. ArePieces (take i t) (front ++ one_text (take n w))) i (subst (λ u. ArePieces (take (length (spelled front) + n) t) (front ++ one_text u)) same are))))
          (list_all-append is_plain_piece front (one_text (take n w)) ∙ and_from _ _ so_far.are_plain (one_text-plain (take n w) (part n printed)))
          (so_far.style_is ∙ sym (style_through-append plain_style front (one_text (take n w)) ∙ one_text-through (style_through plain_style front) (take n w)));
      first = λ none.
          let all : width ≡ left = omega (arith, so_far.sum, plain-bound (chars x) n so_far.plain, ap length (encodes-chars x so_far.utf8), place, none) in
          subst (λ k. IsFittingTo Shown t width v.position k) all (subst (λ n. IsFittingTo Shown t width n width) (sym none) (fitting-begin Shown t width utf8));
      fitting = λ printed. fits (ends-printable Shown t utf8 x y n text so_far.utf8 so_far.plain w (more ++ plain_of ps) (append_assoc w more (plain_of ps)) some (part 1 printed));
      ends = λ ends. fits (ends-at Shown t utf8 x y n text so_far.utf8 so_far.plain v place walk ends);
      rest = λ k test all.
          let i : length (spelled front) ≡ v.offset = omega (arith, offset, so_far.bytes) in
          let are = subst (λ i. ArePieces (take (i + k) t) (front ++ pieces_of (take k (drop i t)))) i (cut-are t front k (Text run ∷ ps) (subst (ArePieces t) so_far.all (pieces_are t)) so_far.are_plain) in
          (and_parts (list_all test front) (list_all test (pieces_of (take k (drop v.offset t)))) (sym (ap (list_all test) (sym (pieces_of-unique _ _ are)) ∙ list_all-append test front (pieces_of (take k (drop v.offset t)))) ∙ all)).1;
    }

-- the run is that of a part at the front of the text, and may go on after it
pub at-run : {t near : List ℕ} {width left position last : ℕ} {style : Rendition} {old new : Scan} {item : Item} (n : ℕ) (v : Walk) → IsUtf8 t → IsCharBoundary t n → near ≡ take n t → IsPlainSoFar near width left style last position old.offset (pieces_left old) → GivesItem old item new → old.text ≡ near
    → item.kind ≡ TextKind → v ≡ walk_at_run position item.start item.end → IsAtRun t width left style v
at-run {t} {near} {width} {left} {position} {last} {style} {old} {new} {item} n v utf8 end near_is so_far gives same kind is =
    let w = slice_range near item.start item.end in
    let over : IsOverText near w old.offset new.offset (pieces_left old) (pieces_left new) = over_text gives same refl kind in
    let ends : IsCharBoundary near new.offset = subst (IsCharBoundary near) gives.end (subst (λ u. IsCharBoundary u item.end) same gives.end_boundary) in
    let bytes = part-near utf8 end (subst (λ u. IsPlainPart u w old.offset new.offset) near_is (plain-part over ends)) in
    let whole : near ++ drop n t ≡ t = ap (λ u. u ++ drop n t) near_is ∙ take-append-drop n t in
    let on = so_far-near (drop n t) (subst (IsPlainSoFar near width left style last position old.offset) over.first so_far) in
    walk-at on.0 on.1 v utf8 (subst (λ u. IsPlainSoFar u width left style last position old.offset (Text (w ++ on.0) ∷ on.1)) whole on.2) bytes (omega (arith, over.count, gives.start, gives.end, gives.forward)) (is ∙ ap₂ (walk_at_run position) gives.start gives.end)

-- a run that goes on past the width
pub plain-before : {t : List ℕ} {width left : ℕ} {style : Rendition} {v : Walk} → IsAtRun t width left style v → (n : ℕ) × (left < n) × (later : Walk) × IsPastAscii t v n later → IsPlainBefore t width left style v
plain-before {t} {v = v} run past =
    let n = past.0 in
    let front = past.3.front in
    let bytes : list_all is_printable (take n (drop v.offset t)) ≡ true = ap (list_all is_printable) (sym (slice_range-take t v.offset n)) ∙ front.bytes in
    record {
      is_walk = run.is_walk;
      front = run.front;
      fitting = run.fitting (record {
        within = omega (arith, front.within, past.1);
        bytes = ap (list_all is_printable) (slice_range-take t v.offset 1 ∙ sym (take-take 1 n (drop v.offset t) (omega (arith, past.1)))) ∙ (list_all-parts is_printable 1 (take n (drop v.offset t)) bytes).0;
      });
      count = n;
      more = past.1;
      later = past.2;
      past = past.3;
    }

-- ---- the place at which the text is cut

-- each of the bytes is a cluster by itself
clusters-at : (t : List ℕ) (n k : ℕ) (bytes : List ℕ) → AreClustersIn Shown t n bytes → k < length bytes → seen_clusters Shown t (n + k) ≡ (slice_index bytes k ∷ []) ∷ seen_clusters Shown t (n + k + 1)
clusters-at t n k [] are inside = absurd (omega (arith, inside))
clusters-at t n zero (b ∷ bytes) are inside = (let same : n + 0 ≡ n = omega arith in subst (λ m. seen_clusters Shown t m ≡ (b ∷ []) ∷ seen_clusters Shown t (m + 1)) (sym same) are.0)
clusters-at t n (suc k) (b ∷ bytes) are inside =
    let same : n + 1 + k ≡ n + suc k = omega arith in
    subst (λ m. seen_clusters Shown t m ≡ (slice_index bytes k ∷ []) ∷ seen_clusters Shown t (m + 1)) same (clusters-at t (n + 1) k bytes are.1 (omega (arith, inside)))

inside-run : {a b n : ℕ} → a < n → a ≤ b → (a ≡ b → a ≡ n) → a < b
inside-run {a} {b} inside ordered end = elim (cases_lt a b) [
  | inl less ↦ less
  | inr past ↦ absurd (omega (arith, inside, end (omega (arith, past, ordered))))
]

module _ (t : List ℕ) (utf8 : IsUtf8 t) (w v : Walk) (room k : ℕ) (walk : IsWalkIn Shown t w) (fitting : IsFittingTo Shown t room w.position k) (over : IsPastAscii t w k v) (at : v.offset ≡ w.offset + k) where
  there : IsFittingTo Shown t room v.position 0
  there = (let none : k - k ≡ 0 = omega arith in subst (IsFittingTo Shown t room v.position) none (fitting-past walk over (omega arith) fitting))

  pub columns-cut : columns (take (seen_len Shown t v.position) (seen_text Shown t)) ≡ room
  columns-cut = omega (arith, fitting-columns v.position there utf8 refl)

  -- more of the run is printable
  module _ (n : ℕ) (more : k < n) (later : Walk) (past : IsPastAscii t w n later) where
    abbrev bytes : List ℕ
    bytes = slice_range t w.offset (w.offset + n)

    abbrev next : ℕ
    next = slice_index t v.offset

    next-printable : is_printable next ≡ true
    next-printable =
        ap (λ i. is_printable (slice_index t i)) at
        ∙ printable-at n k walk (omega (arith, past.front.within)) (ap (list_all is_printable) (sym (slice_range-take t w.offset n)) ∙ past.front.bytes) more

    fits : FitsUpTo (seen_text Shown t) room (seen_len Shown t v.position)
    fits =
        let size : length bytes ≡ n = front-size walk past.front in
        let b = slice_index bytes k in
        let printable : is_printable b ≡ true = all-index k bytes (omega (arith, size, more)) past.front.bytes in
        let first = clusters-at t w.position k bytes (past.clusters Shown) (omega (arith, size, more)) in
        fitting-before (b ∷ []) (seen_clusters Shown t (v.position + 1)) there (subst (λ m. seen_clusters Shown t m ≡ (b ∷ []) ∷ seen_clusters Shown t (m + 1)) (sym over.position) first)
        (sym (width-single b printable)) (omega arith)

    pub sees-cut : SeesUpTo Shown t room v.position
    sees-cut =
        let is = over.walk Shown walk in
        let inside : v.offset < length t = omega (arith, at, more, past.front.within, walk.run.end_boundary.0) in
        let goes_on : v.offset < v.run_end = inside-run inside is.run.ordered is.end in
        let follows : IsNext t v next = next-ascii Shown t utf8 v next (drop (suc v.offset) t) (drop-cons t v.offset 0 inside) (omega (arith, printable-below_7F next next-printable)) goes_on in
        sees-up_to Shown t utf8 v is v.position (Some next) fits refl (record { given = next; next = follows; seen = seen-printable Shown next next-printable; size = refl })

-- the place k bytes further on in the run, up to which a narrower width is filled
pub plain-cut : {t : List ℕ} {width left : ℕ} {style : Rendition} {w v : Walk} (room k : ℕ) → IsUtf8 t → IsPlainBefore t width left style w → k ≤ left → room + left ≡ width + k → IsPastAscii t w k v → v.offset ≡ w.offset + k → IsPlainCut t room style v
plain-cut {t} {width} {left} {style} {w} {v} room k utf8 before within sum over at =
    let fitting : IsFittingTo Shown t room w.position k
    = record {
      front = before.fitting.front;
      all = before.fitting.all;
      boundary = before.fitting.boundary;
      columns = omega (arith, before.fitting.columns, sum);
    } in
    record {
      is_walk = over.walk Shown before.is_walk;
      text = subst (λ i. IsPlainText (take i t) style) (sym at) (before.front k over.front);
      sees = sees-cut t utf8 w v room k before.is_walk fitting over at before.count (omega (arith, within, before.more)) before.later before.past;
      sum = columns-cut t utf8 w v room k before.is_walk fitting over at;
    }

-- the text doesn't fit
pub plain-wide : {t : List ℕ} {width left : ℕ} {style : Rendition} {w : Walk} → IsPlainBefore t width left style w → nat_le (columns (plain (cell t))) width ≡ false
plain-wide {t} {width} {w = w} before =
    lt-leb (columns (plain (cell t))) width
    (omega (arith, ap columns_of before.fitting.all ∙ sum_by-append cluster_width before.fitting.front (seen_clusters Shown t w.position), before.fitting.columns, before.more, columns-past before.is_walk before.past))

-- what the code asks of the bytes before it
pub plain-ahead : {t : List ℕ} {width left : ℕ} {style : Rendition} {w : Walk} (k : ℕ) → IsPlainBefore t width left style w → k ≤ left → IsPrintable t w k
plain-ahead k before within = front-fewer before.count k before.is_walk before.past.front (omega (arith, within, before.more))

-- the code passes them
pub plain-over : {t : List ℕ} {width left : ℕ} {style : Rendition} {w v : Walk} (k : ℕ) → IsPlainBefore t width left style w → k ≤ left → ((view : View) → IsWalkIn view t w → IsWalkIn view t v) → v.position ≡ w.position + k
    → ((view : View) → AreClustersIn view t w.position (slice_range t w.offset (w.offset + k))) → ((view : View) → seen_len view t v.position ≡ seen_len view t w.position + k) → IsPastAscii t w k v
plain-over k before within walk position clusters seen = record {
  front = IsPrintable-front k before.is_walk (λ some. plain-ahead k before within);
  walk = walk;
  position = position;
  clusters = clusters;
  seen = seen;
}

-- ---- the text before the run

pub front-run : (t : List ℕ) (width : ℕ) (front : PlainFront) {run : Walk} → IsFront t width front → front.run ≡ Some run → IsAtRun t width front.left (rendition_of front.style) run
front-run t width front is some = subst (λ o. MatchOption o (IsWholeFront t width front) (IsAtRun t width front.left (rendition_of front.style))) some is

pub front-text : (t : List ℕ) (width : ℕ) (front : PlainFront) {run : Walk} → IsFront t width front → front.run ≡ Some run → IsPlainText (take run.offset t) (rendition_of front.style)
front-text t width front {run} is some =
    let n = run.offset in
    let at = front-run t width front is some in
    let none : n + 0 - n ≡ 0 = omega arith in
    let same : n + 0 ≡ n = omega arith in
    let plain = at.front 0 (record { within = omega (arith, at.is_walk.run.ordered); bytes = ap (λ k. list_all is_printable (take k (drop n t))) none }) in
    subst (λ k. IsPlainText (take k t) (rendition_of front.style)) same plain

-- in a part of the text that has it
pub front-part : (t : List ℕ) {kept : List ℕ} (width end : ℕ) (front : PlainFront) {run : Walk} → IsFront t width front → front.run ≡ Some run → kept ≡ slice_range t 0 end → run.offset ≤ end → IsPlainText (take run.offset kept) (rendition_of front.style)
front-part t {kept} width end front {run} is some kept_is within =
    let count : end - 0 ≡ end = omega arith in
    let same : take run.offset kept ≡ take run.offset t = ap (take run.offset) (kept_is ∙ ap (λ k. take k t) count) ∙ take-take run.offset end t within in
    subst (λ u. IsPlainText u (rendition_of front.style)) (sym same) (front-text t width front is some)

-- what follows it has its pieces
pub rest-pieces : (t : List ℕ) (n : ℕ) → ((k : ℕ) (test : Piece → Bool) → list_all test (pieces_of (take (n + k) t)) ≡ true → list_all test (pieces_of (take k (drop n t))) ≡ true) → HasPieces t (drop n t)
rest-pieces t n has test all =
    let k = length t in
    let whole : take (n + k) t ≡ t = take_all (n + k) t (omega arith) in
    let rest : take k (drop n t) ≡ drop n t = take_all k (drop n t) (omega (arith, length-drop n t)) in
    ap (λ u. list_all test (pieces_of u)) (sym rest) ∙ has k test (ap (λ u. list_all test (pieces_of u)) whole ∙ all)

-- and so it is in a part of the text
pub front-rest : (t : List ℕ) {kept : List ℕ} (width end : ℕ) (front : PlainFront) {run : Walk} → IsFront t width front → front.run ≡ Some run → kept ≡ slice_range t 0 end → run.offset ≤ end → HasPieces kept (drop run.offset kept)
front-rest t {kept} width end front {run} is some kept_is within test all =
    let n = run.offset in
    let k = end - n in
    let count : end - 0 ≡ n + k = omega (arith, within) in
    let same : kept ≡ take (n + k) t = kept_is ∙ ap (λ j. take j t) count in
    let rest : drop n kept ≡ take k (drop n t) = ap (drop n) same ∙ drop-take n k t in
    ap (λ u. list_all test (pieces_of u)) rest ∙ (front-run t width front is some).rest k test (ap (λ u. list_all test (pieces_of u)) (sym same) ∙ all)

-- ---- the text truncated

-- the code has the front of the text, what closes its style, and what is written after it
pub record IsPlainTruncated (t : List ℕ) (width : ℕ) (tail part close after : List ℕ) : Type 0 where
  pub cut : IsCutTo (cell t) width tail part close after
  pub kept : KeptStays t width tail

pub plain-truncated : {t part after : List ℕ} {room : ℕ} {style : Rendition} {v : Walk} (width : ℕ) (tail : List ℕ) → IsUtf8 t → IsPlainCut t room style v → truncated_width (cell t) width tail ≡ room → after ≡ (if has_tail (cell t) width tail then tail else [])
    → part ≡ slice_range t 0 v.offset → IsPlainTruncated t width tail part ([] ++ close style) after
unfolding KeptStays
plain-truncated {t} {part} {style = style} {v = v} width tail utf8 is room_is after_is part_is =
    let count : v.offset - 0 ≡ v.offset = omega arith in
    let text : IsPlainText part style = subst (λ u. IsPlainText u style) (sym (part_is ∙ ap (λ n. take n t) count)) is.text in
    let sees = subst (λ n. SeesUpTo Shown t n v.position) (sym room_is) is.sees in
    let truncated = truncated-front t utf8 v width tail is.is_walk sees part_is (sym text.stays) refl text.style_is (sym text.link_is) refl refl after_is in
    record { cut = truncated.cut; kept = subst (λ u. cell u ≡ u) truncated.kept text.stays }

-- the columns that it lacks, if what is written has no sequences, and a cluster ends before it
pub plain-lack : {t : List ℕ} {room : ℕ} {style : Rendition} {v : Walk} (width : ℕ) (tail after : List ℕ) → IsUtf8 t → IsPlainCut t room style v → truncated_width (cell t) width tail ≡ room → after ≡ (if has_tail (cell t) width tail then tail else [])
    → room + columns (plain after) ≡ width → list_all is_plain_byte after ≡ true → ((before : List ℕ) → before ≢ [] → v.break_state ≡ break_state_of before → is_grapheme_break true before (chars after) ≡ true) → IsLack (cell t) width tail 0
plain-lack {t} {v = v} width tail after utf8 is room_is after_is sum bare breaks =
    lack-beside t utf8 width tail v is.is_walk (subst (λ n. SeesUpTo Shown t n v.position) (sym room_is) is.sees) 0 after (omega (arith, is.sum, sum)) after_is bare breaks
