-- Texts whose runs are characters that are clusters by themselves beside each other: what one pass over the pieces finds, and their columns.
use Rattle.std.proofs.Common.{◌≡◌, ℕ, ◌+◌, ◌-◌, ◌*◌, ◌<◌, ◌≤◌, true, List, [], ◌∷◌, ◌++◌, length, take, drop, reverse, slice_range, chars, encode_utf8, encode_utf8_all, if◌then◌else◌, refl, sym, ◌∙◌, ap, ap₂, subst, arith, append-nil, append_assoc, length-append, take-append-drop}
use Rattle.std.specs.List.{list_all, prefix_len}
use Rattle.std.specs.Str.{IsUtf8, IsCharBoundary}
use Rattle.std.proofs.lemmas.Bool.{and_from, and_parts}
use Rattle.std.proofs.lemmas.Grind.{flat_map-append}
use Rattle.std.proofs.lemmas.List.{drop_at, drop-drop, take_all, take_at, take-take, length-drop, length-take-le}
use Rattle.std.proofs.lemmas.List.Sums.{sum_by-append, sum_by-cons}
use Rattle.std.proofs.lemmas.Str.{chars-append, chars-nil, IsCharBoundary-from_rest, IsCharBoundary-from_take, encodes-chars, IsUtf8-nil, IsUtf8-append, IsUtf8-drop, IsUtf8-from_ascii, IsUtf8-take}
use Rattle.std.proofs.lemmas.Str.Ascii.{IsAscii-from_all}
use Rattle.unicode_segmentation.specs.Grapheme.{is_grapheme_break, break_by_pair}
use Rattle.ucd_breaks.specs.GraphemeClusterBreak.{grapheme_cluster_break}
use Rattle.ansi_items.specs.declared.ansitok.Item.{Item}
use Rattle.ansi_items.specs.declared.ansitok.Kind.{Kind}
use Rattle.ansi_items.specs.declared.ansitok.Kind.TheVariants.{Text as TextKind}
use Rattle.ansi_items.specs.Pieces.{Piece, Text, spelling, pieces_of}
use Rattle.ansi_items.specs.Plain.{plain, plain_bytes, plain_of}
use Rattle.ansi_items.specs.Scans.{Scan, GivesItem, pieces_left}
use Rattle.ansi_items.proofs.PlainLemmas.{length-plain}
use Rattle.ansi_items.proofs.JoinLemmas.{spelled}
use Rattle.ansi_items.proofs.StepLemmas.{is_mark}
use Rattle.ansi_search.proofs.SliceLemmas.{length-slice_range}
use Rattle.ansi_search.proofs.OffsetLemmas.{IsOverText, IsOverMark, over_text}
use Rattle.ansi_split.proofs.AfterLemmas.{drop-take}
use Rattle.ansi_split.proofs.RestLemmas.{boundary-drop}
use Rattle.ansi_clusters.specs.declared.views.View.{View}
use Rattle.ansi_clusters.specs.declared.views.View.TheVariants.{Shown}
use Rattle.ansi_clusters.specs.declared.walks.Walk.{Walk}
use Rattle.ansi_clusters.specs.BreakStates.{break_state_of}
use Rattle.ansi_clusters.specs.Columns.{bytes_of, cluster_width, columns_of, columns as columns_in}
use Rattle.ansi_clusters.specs.Letters.{IsPlainSingle, ArePlain, IsPlainFront}
use Rattle.ansi_clusters.specs.Views.{seen, seen_text}
use Rattle.ansi_clusters.specs.Walks.{clusters_after, seen_before, seen_after, seen_clusters, IsWalkIn, IsCounted, IsCountedTo, IsFittingTo, EndsAscii, walk_at_run}
use Rattle.ansi_clusters.proofs.AsciiLemmas.{is_printable, All-printable_is_ascii, break_state-printable}
use Rattle.ansi_clusters.proofs.BreakLemmas.{is_grapheme_break-decided}
use Rattle.ansi_clusters.proofs.ClusterLawLemmas.{reversed_before, breaks-last, cluster-alone}
use Rattle.ansi_clusters.proofs.ClusterLemmas.{clusters-none}
use Rattle.ansi_clusters.proofs.ColumnLemmas.{bytes_of-append, counted-begin, counted-end}
use Rattle.ansi_clusters.proofs.LetterLemmas.{front-printable, plain-append, plain-bound, plain-state}
use Rattle.ansi_clusters.proofs.PrintableLemmas.{singles}
use Rattle.ansi_clusters.proofs.SingleLemmas.{breaks-single}
use Rattle.ansi_clusters.proofs.ViewLemmas.{seen-nil, seen-one, seen-append, seen-chars, seen-printing}
use Rattle.ansi_cells.proofs.FrontRunLemmas.{plain-part, run-walk-in}
use Rattle.ansi_cells.proofs.MissingLemmas.{reversed-is}

-- ---- the clusters before a run

-- a cluster that ends in such a character ends before these characters
abbrev pub EndPlain : List ℕ → Type 0
EndPlain cs = (before : List ℕ) (c width : ℕ) → IsPlainSingle c width → is_grapheme_break true (c ∷ before) cs ≡ true

clusters-plain : (before cs ds : List ℕ) (n : ℕ) → ArePlain cs n → EndPlain ds → clusters_after before (cs ++ ds) ≡ singles cs ++ clusters_after (reversed_before before cs) ds
clusters-plain before [] ds n all ends = refl
clusters-plain before (c ∷ []) ds n all ends = cluster-alone before c ds (ends before c all.0 all.2)
clusters-plain before (c ∷ e ∷ cs) ds n all ends =
    cluster-alone before c (e ∷ cs ++ ds) (breaks-single before c e (cs ++ ds) all.2.shown.single all.3.2.shown.single) ∙ ap (λ ks. (c ∷ []) ∷ ks) (clusters-plain (c ∷ before) (e ∷ cs) ds all.1 all.3 ends)

-- those of a whole text
pub clusters-singles : (cs : List ℕ) (n : ℕ) → ArePlain cs n → clusters_after [] cs ≡ singles cs
clusters-singles cs n all =
    ap (clusters_after []) (sym (append-nil cs)) ∙ clusters-plain [] cs [] n all (λ before c width is. breaks-last c before) ∙ ap (λ ks. singles cs ++ ks) (clusters-none (reversed_before [] cs)) ∙ append-nil (singles cs)

columns-plain : (cs : List ℕ) (n : ℕ) → ArePlain cs n → columns_of (singles cs) ≡ n
columns-plain [] n none = sym none
columns-plain (c ∷ cs) n all = omega (arith, sum_by-cons cluster_width (c ∷ []) (singles cs), all.2.shown.columns_are, all.4, columns-plain cs all.1 all.3)

seen-plain : (view : View) (cs : List ℕ) (n : ℕ) → ArePlain cs n → seen view cs ≡ cs
seen-plain view [] n none = seen-nil view
seen-plain view (c ∷ cs) n all = seen-append view (c ∷ []) cs ∙ ap₂ ◌++◌ (seen-one view c ∙ seen-printing view c all.2.shown.printing) (seen-plain view cs all.1 all.3)

state-plain : (before cs : List ℕ) (n : ℕ) → break_state_of [] ≡ break_state_of before → ArePlain cs n → break_state_of [] ≡ break_state_of (reversed_before before cs)
state-plain before [] n is none = is
state-plain before (c ∷ cs) n is all = state-plain (c ∷ before) cs all.1 (plain-state before all.2) all.3

-- a cluster that ends in such a character ends where one that ends in printable ASCII does
ends-plain : (cs : List ℕ) → ((before : List ℕ) (b : ℕ) → is_printable b ≡ true → is_grapheme_break true (b ∷ before) cs ≡ true) → EndPlain cs
ends-plain [] ends before c width is = breaks-last c before
ends-plain (d ∷ cs) ends before c width is =
    let s = break_state_of [] in
    let v = grapheme_cluster_break d in
    let o = break_by_pair true s.last v in
    sym (is_grapheme_break-decided s (c ∷ before) d cs (λ none. cc) (plain-state before is) v refl o refl)
    ∙ is_grapheme_break-decided s (0x61 ∷ []) d cs (λ none. cc) (break_state-printable 0x61 [] refl) v refl o refl
    ∙ ends [] 0x61 refl

-- it ends before such a character
ends-before : (cs ds : List ℕ) (n : ℕ) → 0 < length cs → ArePlain cs n → EndPlain (cs ++ ds)
ends-before [] ds n some all before c width is = absurd (omega (arith, some))
ends-before (d ∷ cs) ds n some all before c width is = breaks-single before c d (cs ++ ds) is.shown.single all.2.shown.single

some-chars : (x : List ℕ) → IsUtf8 x → 0 < length x → 0 < length (chars x)
some-chars x utf8 some = by (chars x) (encodes-chars x utf8)
  where
    by : (cs : List ℕ) → encode_utf8_all cs ≡ x → 0 < length cs
    by [] bytes = absurd (omega (arith, some, ap length bytes))
    by (c ∷ cs) bytes = omega arith

module _ (view : View) (t : List ℕ) (utf8 : IsUtf8 t) (x y : List ℕ) (n : ℕ) (text : plain t ≡ x ++ y) (x_utf8 : IsUtf8 x) (all : ArePlain (chars x) n) where
  taken : seen view (chars (take (length x) (plain t))) ≡ chars x
  taken = ap (λ u. seen view (chars u)) (ap (take (length x)) text ∙ take_at x y (length x) refl) ∙ seen-plain view (chars x) n all

  before-is : seen_before view t (length x) ≡ reversed_before [] (chars x)
  before-is = ap reverse taken ∙ sym (append-nil (reverse (chars x))) ∙ sym (reversed-is [] (chars x))

  pub state-front : break_state_of [] ≡ break_state_of (seen_before view t (length x))
  state-front = state-plain [] (chars x) n refl all ∙ ap break_state_of (sym before-is)

  after-is : seen_after view t (length x) ≡ seen view (chars y)
  after-is = ap (λ u. seen view (chars u)) (ap (drop (length x)) text ∙ drop_at x y (length x) refl)

  all-is : chars (seen_text view t) ≡ chars x ++ seen view (chars y)
  all-is =
      seen-chars view t utf8 ∙ ap (λ u. seen view (chars u)) text ∙ ap (seen view) (chars-append x y x_utf8)
      ∙ seen-append view (chars x) (chars y) ∙ ap (λ cs. cs ++ seen view (chars y)) (seen-plain view (chars x) n all)

  clusters-front : EndPlain (seen view (chars y)) → clusters_after [] (chars (seen_text view t)) ≡ singles (chars x) ++ seen_clusters view t (length x)
  clusters-front ends =
      ap (clusters_after []) all-is ∙ clusters-plain [] (chars x) (seen view (chars y)) n all ends ∙ ap (λ ks. singles (chars x) ++ ks) (ap₂ clusters_after (sym before-is) (sym after-is))

  counted-front : EndPlain (seen view (chars y)) → IsCountedTo view t (length x) n
  counted-front ends = record {
    all = omega (arith, ap columns_of (clusters-front ends), sum_by-append cluster_width (singles (chars x)) (seen_clusters view t (length x)), columns-plain (chars x) n all);
    bound = omega (arith, plain-bound (chars x) n all, ap length (encodes-chars x x_utf8));
  }

  -- a cluster ends at the walk after them
  pub ends-at : (v : Walk) → v.position ≡ length x → IsWalkIn view t v → EndsAscii t v → EndPlain (seen view (chars y))
  ends-at v place is ends = ends-plain (seen view (chars y)) (λ before b first. ap (is_grapheme_break true (b ∷ before)) (sym (ap (seen_after view t) place ∙ after-is)) ∙ ends view is before b first)

  -- and before bytes of such characters
  ends-run : (w rest : List ℕ) (len m : ℕ) → IsUtf8 w → y ≡ w ++ rest → 0 < len → IsPlainFront w len m → EndPlain (seen view (chars y))
  ends-run w rest len m w_utf8 is some front =
      let begin = take len w in
      let begin_utf8 = IsUtf8-take w len w_utf8 front.boundary in
      let more = drop len w ++ rest in
      let bytes : y ≡ begin ++ more = is ∙ ap (λ u. u ++ rest) (sym (take-append-drop len w)) ∙ append_assoc begin (drop len w) rest in
      let seen_is : seen view (chars y) ≡ chars begin ++ seen view (chars more)
      = ap (λ u. seen view (chars u)) bytes ∙ ap (seen view) (chars-append begin more begin_utf8) ∙ seen-append view (chars begin) (chars more) ∙ ap (λ cs. cs ++ seen view (chars more)) (seen-plain view (chars begin) m front.plain) in
      let filled : 0 < length begin = omega (arith, some, length-take-le len w front.boundary.0) in
      subst EndPlain (sym seen_is) (ends-before (chars begin) (seen view (chars more)) m (some-chars begin begin_utf8 filled) front.plain)

  -- and before a byte of printable ASCII
  pub ends-printable : (w rest : List ℕ) → y ≡ w ++ rest → 0 < length w → list_all is_printable (take 1 w) ≡ true → EndPlain (seen view (chars y))
  ends-printable [] rest is some printable = absurd (omega (arith, some))
  ends-printable (b ∷ w) rest is some printable =
      let first : is_printable b ≡ true = (and_parts (is_printable b) true printable).0 in
      let one_utf8 = IsUtf8-from_ascii (b ∷ []) (IsAscii-from_all (b ∷ []) (All-printable_is_ascii (b ∷ []) (and_from _ _ first refl))) in
      let count : 1 ≡ prefix_len is_printable (b ∷ []) = ap (λ p. if p then 1 + 0 else 0) (sym first) in
      ends-run (b ∷ []) (w ++ rest) 1 1 one_utf8 is (omega arith) (front-printable (b ∷ []) one_utf8 1 count)

-- the bytes of these characters, each a cluster
bytes-each : (cs : List ℕ) → bytes_of (singles cs) ≡ length (encode_utf8_all cs)
bytes-each [] = refl
bytes-each (c ∷ cs) =
    omega (arith, bytes_of-append ((c ∷ []) ∷ []) (singles cs), ap length (append-nil (encode_utf8_all (c ∷ []))), ap length (append-nil (encode_utf8 c)), length-append (encode_utf8 c) (encode_utf8_all cs), bytes-each cs)

-- they fit
pub fitting-plain : (t : List ℕ) → IsUtf8 t → (x y : List ℕ) (n : ℕ) → plain t ≡ x ++ y → IsUtf8 x → ArePlain (chars x) n → {width left : ℕ} → EndPlain (seen Shown (chars y)) → n + left ≡ width → IsFittingTo Shown t width (length x) left
fitting-plain t utf8 x y n text x_utf8 all ends sum = record {
  front = singles (chars x);
  all = clusters-front Shown t utf8 x y n text x_utf8 all ends;
  boundary = ap (λ cs. length (encode_utf8_all cs)) (taken Shown t utf8 x y n text x_utf8 all) ∙ sym (bytes-each (chars x));
  columns = omega (arith, sum, columns-plain (chars x) n all);
}

-- a part of a text is a text
pub slice-utf8 : (t : List ℕ) (start end : ℕ) → IsUtf8 t → start ≤ end → IsCharBoundary t start → IsCharBoundary t end → IsUtf8 (slice_range t start end)
slice-utf8 t start end utf8 ordered begins ends = IsUtf8-take (drop start t) (end - start) (IsUtf8-drop t start utf8 begins) (boundary-drop t start end ordered ends)

-- a place in it is one of the text
pub slice-boundary : (t : List ℕ) (start end k : ℕ) → IsUtf8 t → start ≤ end → IsCharBoundary t start → IsCharBoundary t end → IsCharBoundary (slice_range t start end) k → IsCharBoundary t (start + k)
slice-boundary t start end k utf8 ordered begins ends here =
    let x = drop start t in
    let size : length (slice_range t start end) ≡ end - start = length-slice_range t start end ordered ends.0 in
    let same : take k (slice_range t start end) ≡ take k x = take-take k (end - start) x (omega (arith, here.0, size)) in
    let front = subst IsUtf8 same (IsUtf8-take (slice_range t start end) k (slice-utf8 t start end utf8 ordered begins ends) here) in
    IsCharBoundary-from_rest t start k begins.0 (IsCharBoundary-from_take x k (IsUtf8-drop t start utf8 begins) (omega (arith, here.0, size, length-drop start t, ends.0)) front)

-- what is left of a part after n bytes
pub slice-rest : (t : List ℕ) (start end n : ℕ) → drop n (slice_range t start end) ≡ slice_range t (start + n) end
slice-rest t start end n =
    let left : end - start - n ≡ end - (start + n) = omega arith in
    drop-take n (end - start) (drop start t) ∙ ap₂ (λ k u. take k u) left (drop-drop n start t)

-- ---- what a pass finds

-- The pieces passed have this many bytes, and those of the runs among them, this many, are such characters, with this number of columns.
pub record ArePlainSoFar (t : List ℕ) (columns position passed : ℕ) (ps : List Piece) : Type 0 where
  pub front : List Piece
  pub all : pieces_of t ≡ front ++ ps
  pub bytes : passed ≡ length (spelled front)
  pub utf8 : IsUtf8 (plain_of front)
  pub plain : ArePlain (chars (plain_of front)) columns
  pub count : length (plain_of front) ≡ position

pub plain-begin : (t : List ℕ) → ArePlainSoFar t 0 0 0 (pieces_of t)
plain-begin t = record { front = []; all = refl; bytes = refl; utf8 = IsUtf8-nil; plain = subst (λ cs. ArePlain cs 0) (sym chars-nil) refl; count = refl }

plain-more : {t : List ℕ} {columns next position after passed at : ℕ} {ps : List Piece} (p : Piece) (more : ℕ) → ArePlainSoFar t columns position passed (p ∷ ps) → IsUtf8 (plain_bytes p) → ArePlain (chars (plain_bytes p)) more → at ≡ passed + length (spelling p) → after ≡ position + length (plain_bytes p) → next ≡ columns + more
    → ArePlainSoFar t next after at ps
plain-more {columns = columns} {ps = ps} p more so_far p_utf8 all at_is after_is next_is =
    let front = so_far.front in
    let runs : plain_of (front ++ p ∷ []) ≡ plain_of front ++ plain_bytes p = flat_map-append plain_bytes front (p ∷ []) ∙ ap (λ u. plain_of front ++ u) (append-nil (plain_bytes p)) in
    let cs : chars (plain_of (front ++ p ∷ [])) ≡ chars (plain_of front) ++ chars (plain_bytes p) = ap chars runs ∙ chars-append (plain_of front) (plain_bytes p) so_far.utf8 in
    record {
      front = front ++ p ∷ [];
      all = so_far.all ∙ sym (append_assoc front (p ∷ []) ps);
      bytes = omega (arith, at_is, so_far.bytes, ap length (flat_map-append spelling front (p ∷ []) ∙ ap (λ u. spelled front ++ u) (append-nil (spelling p))), length-append (spelled front) (spelling p));
      utf8 = subst IsUtf8 (sym runs) (IsUtf8-append (plain_of front) (plain_bytes p) so_far.utf8 p_utf8);
      plain = subst (λ k. ArePlain (chars (plain_of (front ++ p ∷ []))) k) (sym next_is) (subst (λ ds. ArePlain ds (columns + more)) (sym cs) (plain-append (chars (plain_of front)) (chars (plain_bytes p)) columns more so_far.plain all));
      count = omega (arith, after_is, so_far.count, ap length runs, length-append (plain_of front) (plain_bytes p));
    }

-- over a run
pub plain-run : {t w : List ℕ} {columns next position after passed at len more : ℕ} {old ps : List Piece} → ArePlainSoFar t columns position passed old → IsOverText t w passed at old ps → IsUtf8 w → IsPlainFront w len more → len ≡ length w → after ≡ position + len → next ≡ columns + more → ArePlainSoFar t next after at ps
plain-run {t} {w} {columns} {position = position} {passed = passed} {len = len} {more = more} so_far over w_utf8 front whole after_is next_is =
    let all : ArePlain (chars w) more = subst (λ u. ArePlain (chars u) more) (take_all len w (omega (arith, whole))) front.plain in
    plain-more (Text w) more (subst (ArePlainSoFar t columns position passed) over.first so_far) w_utf8 all over.count (omega (arith, after_is, whole)) next_is

-- over a sequence or a lone escape
mark-bytes : (p : Piece) → is_mark p ≡ true → plain_bytes p ≡ []
mark-bytes (Text w) mark = absurd (cc mark)
mark-bytes p mark = refl

pub plain-mark : {t w : List ℕ} {columns position passed at : ℕ} {kind : Kind} {old ps : List Piece} → ArePlainSoFar t columns position passed old → IsOverMark kind t w passed at old ps → ArePlainSoFar t columns position at ps
plain-mark {t} {columns = columns} {position} {passed} so_far over =
    let first = over.first in
    let none = mark-bytes first.mark first.is_mark in
    let nothing : ArePlain (chars (plain_bytes first.mark)) 0 = subst (λ u. ArePlain (chars u) 0) (sym none) (subst (λ cs. ArePlain cs 0) (sym chars-nil) refl) in
    plain-more first.mark 0 (subst (ArePlainSoFar t columns position passed) first.pieces so_far) (subst IsUtf8 (sym none) IsUtf8-nil) nothing (omega (arith, over.count, ap length first.bytes)) (omega (arith, ap length none)) (omega arith)

pub plain-within : {t : List ℕ} {columns position passed : ℕ} {ps : List Piece} → ArePlainSoFar t columns position passed ps → (position ≤ length t) × (columns ≤ 2 * position)
plain-within {t} {columns} {ps = ps} so_far = (
  omega (arith, so_far.count, ap length (ap plain_of so_far.all ∙ flat_map-append plain_bytes so_far.front ps), length-append (plain_of so_far.front) (plain_of ps), length-plain t),
  omega (arith, so_far.count, plain-bound (chars (plain_of so_far.front)) columns so_far.plain, ap length (encodes-chars (plain_of so_far.front) so_far.utf8)),
)

-- what is seen of it has as many columns
pub plain-columns : {t : List ℕ} {columns position passed : ℕ} {old : List Piece} (view : View) → IsUtf8 t → ArePlainSoFar t columns position passed old → old ≡ [] → columns ≡ columns_in (seen_text view t)
plain-columns {t} {columns} {position} {passed} view utf8 so_far none =
    let here = subst (ArePlainSoFar t columns position passed) none so_far in
    let x = plain_of here.front in
    let text : plain t ≡ x ++ [] = ap plain_of (here.all ∙ append-nil here.front) ∙ sym (append-nil x) in
    let nothing : seen view (chars []) ≡ [] = ap (seen view) chars-nil ∙ seen-nil view in
    counted-end (counted-front view t utf8 x [] columns text here.utf8 here.plain (subst EndPlain (sym nothing) (λ before c width is. breaks-last c before)))
    (after-is view t utf8 x [] columns text here.utf8 here.plain ∙ nothing)

-- the walk at a run, and the columns before it
module _ {t : List ℕ} {columns position : ℕ} {old new : Scan} {item : Item} (v : Walk) (utf8 : IsUtf8 t) (so_far : ArePlainSoFar t columns position old.offset (pieces_left old)) (gives : GivesItem old item new) (same : old.text ≡ t) (kind : item.kind ≡ TextKind) (is : v ≡ walk_at_run position item.start item.end) where
  over : IsOverText t (slice_range t item.start item.end) old.offset new.offset (pieces_left old) (pieces_left new)
  over = over_text gives same refl kind

  runs : List ℕ
  runs = plain_of so_far.front

  -- it is text too
  pub run-utf8 : IsUtf8 (slice_range t item.start item.end)
  run-utf8 =
      let start : IsCharBoundary t item.start = subst (λ u. IsCharBoundary u item.start) same gives.start_boundary in
      let end : IsCharBoundary t item.end = subst (λ u. IsCharBoundary u item.end) same gives.end_boundary in
      slice-utf8 t item.start item.end utf8 (omega (arith, gives.forward)) start end

  rest : List ℕ
  rest = slice_range t item.start item.end ++ plain_of (pieces_left new)

  pieces : pieces_of t ≡ so_far.front ++ Text (slice_range t item.start item.end) ∷ pieces_left new
  pieces = so_far.all ∙ ap (λ qs. so_far.front ++ qs) over.first

  text : plain t ≡ runs ++ rest
  unfolding runs rest
  text = ap plain_of pieces ∙ flat_map-append plain_bytes so_far.front (Text (slice_range t item.start item.end) ∷ pieces_left new)

  place : v.position ≡ length runs
  unfolding runs
  place = ap (λ (u : Walk). u.position) is ∙ sym so_far.count

  pub walk-plain : (view : View) → IsWalkIn view t v
  unfolding runs rest
  walk-plain view =
      let end : IsCharBoundary t new.offset = subst (IsCharBoundary t) gives.end (subst (λ u. IsCharBoundary u item.end) same gives.end_boundary) in
      let whole = pieces ∙ ap (λ w. so_far.front ++ Text w ∷ pieces_left new) (sym (append-nil (slice_range t item.start item.end))) in
      run-walk-in view [] (pieces_left new) so_far.front v whole (state-front view t utf8 runs rest columns text so_far.utf8 so_far.plain) so_far.bytes (plain-part over end) (omega (arith, over.count, gives.start, gives.end, gives.forward)) place (ap (λ (u : Walk). u.offset) is ∙ gives.start)
      (ap (λ (u : Walk). u.run_end) is ∙ gives.end) (ap (λ (u : Walk). u.break_state) is)

  counted-by : ((view : View) → EndPlain (seen view (chars rest))) → IsCounted t columns v
  unfolding runs rest
  counted-by ends = record {
    is_walk = walk-plain;
    counted = λ view. subst (λ k. IsCountedTo view t k columns) (sym place) (counted-front view t utf8 runs rest columns text so_far.utf8 so_far.plain (ends view));
  }

  -- if a cluster that ends in printable ASCII ends at the run
  pub counted-ending : EndsAscii t v → IsCounted t columns v
  unfolding runs rest
  counted-ending ends = counted-by (λ view. ends-at view t utf8 runs rest columns text so_far.utf8 so_far.plain v place (walk-plain view) ends)

  -- if the run begins with such a character
  pub counted-run : {len m : ℕ} → IsPlainFront (slice_range t item.start item.end) len m → 0 < len → IsCounted t columns v
  unfolding runs rest
  counted-run {len} {m} front some =
      counted-by (λ view. ends-run view t utf8 runs rest columns text so_far.utf8 so_far.plain (slice_range t item.start item.end) (plain_of (pieces_left new)) len m run-utf8 refl some front)

  -- if nothing is before it
  pub counted-first : position ≡ 0 → columns ≡ 0 → IsCounted t columns v
  counted-first start none = record {
    is_walk = walk-plain;
    counted = λ view. subst (λ k. IsCountedTo view t k columns) (sym (ap (λ (u : Walk). u.position) is ∙ start)) (subst (IsCountedTo view t 0) (sym none) (counted-begin view t utf8));
  }
