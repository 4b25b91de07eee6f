-- A text that begins with printable ASCII: where it is cut for a tail of one column.
use Rattle.std.proofs.Common.{◌≡◌, ℕ, ◌⊎◌, inl, inr, ◌==◌, ◌&&◌, ◌||◌, not, false, Option, None, Some, nat_le, if◌then◌else◌, ap₂, zero, suc, ◌+◌, ◌-◌, ◌<◌, ◌≤◌, true, ◌≢◌, List, [], ◌∷◌, ◌++◌, length, take, slice_index, slice_range, refl, sym, ◌∙◌, ap, subst, arith, append-nil}
use Rattle.std.specs.List.{list_all}
use Rattle.std.specs.Str.{IsUtf8, IsCharBoundary, chars}
use Rattle.std.proofs.lemmas.Bool.{and_parts, or_left, or_right, le-leb, lt-leb}
use Rattle.std.proofs.lemmas.List.Sums.{sum_by-cons}
use Rattle.std.proofs.lemmas.List.{length-take-le, get_or-take, take_all}
use Rattle.std.proofs.lemmas.Str.{IsCharBoundary-after_ascii, IsCharBoundary-start, IsUtf8-from_ascii}
use Rattle.std.proofs.lemmas.Str.Ascii.{IsAscii-from_all}
use Rattle.ucd_breaks.specs.GraphemeClusterBreak.{grapheme_cluster_break}
use Rattle.unicode_segmentation.specs.Grapheme.{is_grapheme_break, break_by_pair}
use Rattle.ansi_items.specs.Bytes.{is_plain_byte}
use Rattle.ansi_items.specs.Plain.{plain, marks, marks_up_to, has_escape}
use Rattle.ansi_items.proofs.PlainLemmas.{has_escape-bare, plain-bare as bare-plain}
use Rattle.ansi_slice.specs.Cut.{interleaved}
use Rattle.ansi_slice.proofs.InterleavedLemmas.{interleaved-bare}
use Rattle.ansi_split.specs.Parts.{marks_past}
use Rattle.ansi_style.specs.Rendition.{has_any, plain_style}
use Rattle.ansi_style.specs.Styled.{style_of}
use Rattle.ansi_style.specs.Written.{start, close}
use Rattle.ansi_safe.specs.Cells.{cell}
use Rattle.ansi_safe.specs.Links.{link_of, link_end, pen_close}
use Rattle.ansi_cells.specs.Slices.{has_no_column, bytes_up_to, blanks_before, blanks_after, opened_at, pen_open, slice_opening, slice_middle, slice_closing, sliced_up_to, is_pen_plain, is_stretch}
use Rattle.ansi_cells.proofs.AsciiSliceLemmas.{from-is, begun-columns, end-of}
use Rattle.ansi_cells.proofs.ClosedLemmas.{marks-bare}
use Rattle.ansi_search.specs.Offsets.{offset_of}
use Rattle.ansi_cells.specs.declared.shown.Alignment.{Alignment}
use Rattle.ansi_clusters.specs.declared.views.View.{View}
use Rattle.ansi_clusters.specs.declared.views.View.TheVariants.{Shown}
use Rattle.ansi_clusters.specs.declared.walks.Walk.{Walk}
use Rattle.ansi_clusters.specs.BreakStates.{break_state_of}
use Rattle.ansi_cells.specs.Fitted.{fitted}
use Rattle.ansi_cells.specs.PlainCells.{IsPlainText, IsPlainBefore, IsPlainCut, IsPlainCell}
use Rattle.ansi_clusters.specs.Columns.{cluster_width, columns_of, columns}
use Rattle.ansi_clusters.specs.Lines.{blanks}
use Rattle.ansi_cells.specs.Shown.{truncated, truncated_ending, truncated_width, padded, between_blanks, KeptStays}
use Rattle.ansi_clusters.specs.Walks.{IsRun, IsWalkIn, IsPrintable, IsPastAscii, walk_at_run}
use Rattle.ansi_clusters.proofs.AsciiLemmas.{is_printable, printable-below_7F, All-printable_is_ascii, columns-printable, IsSingle-printable, break_state-printable}
use Rattle.ansi_clusters.proofs.BreakLemmas.{is_grapheme_break-decided}
use Rattle.ansi_clusters.proofs.ClusterLemmas.{cluster-begins, cluster-last}
use Rattle.ansi_clusters.proofs.ColumnLemmas.{fitting-begin}
use Rattle.ansi_clusters.proofs.PlaceLemmas.{offset_of-plain}
use Rattle.ansi_cells.proofs.MissingLemmas.{IsLack}
use Rattle.ansi_cells.proofs.PlainCellLemmas.{printable-plain, plain-bare, plain-text, plain-uncut, plain-padded}
use Rattle.ansi_cells.proofs.PlainFrontLemmas.{plain-cut, plain-wide, plain-truncated, plain-lack}
use Rattle.ansi_clusters.proofs.PrintableLemmas.{advanced, passed-printable, clusters-printable, seen_len-printable, printable-shorter, IsPrintable-front, all-index, advanced-place}
use Rattle.ansi_cells.proofs.ShownLemmas.{width-tail, cut-bytes, cut-ending, between-none, padded-between}
use Rattle.ansi_clusters.proofs.SingleLemmas.{IsShownSingle-ellipsis, breaks-single}
use Rattle.ansi_clusters.proofs.ViewLemmas.{seen_before-start}

pub bare-front : (x : List ℕ) → list_all is_printable x ≡ true → IsPlainText x plain_style
bare-front [] all = plain-text [] (IsUtf8-from_ascii [] (IsAscii-from_all [] (All-printable_is_ascii [] all))) refl refl refl
bare-front (b ∷ x) all =
    let t = b ∷ x in
    (plain-bare {width = length t} {left = 0} t (IsUtf8-from_ascii t (IsAscii-from_all t (All-printable_is_ascii t all))) (omega arith) all (omega arith) refl refl).text

begins : (t : List ℕ) (n : ℕ) → 0 < n → n ≤ length t → list_all is_printable (take n t) ≡ true → offset_of t 0 ≡ 0
begins [] n some within all = absurd (omega (arith, some, within))
begins (b ∷ t) zero some within all = absurd (omega (arith, some))
begins (b ∷ t) (suc n) some within all = offset_of-plain b t (first b (take n t) all)
  where
    first : (b : ℕ) (x : List ℕ) → list_all is_printable (b ∷ x) ≡ true → is_plain_byte b ≡ true
    first b x all = all-index-plain (printable-plain (b ∷ x) all)
      where
        all-index-plain : list_all is_plain_byte (b ∷ x) ≡ true → is_plain_byte b ≡ true
        all-index-plain plain = (and_parts (is_plain_byte b) (list_all is_plain_byte x) plain).0

module _ (t : List ℕ) (utf8 : IsUtf8 t) (n : ℕ) (some : 0 < n) (within : n ≤ length t) (all : list_all is_printable (take n t) ≡ true) where
  abbrev w : Walk
  w = walk_at_run 0 0 n

  run : IsRun t 0 n
  run =
      let size : length (take n t) ≡ n = length-take-le n t within in
      let last : is_printable (slice_index t (n - 1)) ≡ true = ap is_printable (sym (get_or-take n t (n - 1) 0 (omega (arith, some)))) ∙ all-index (n - 1) (take n t) (omega (arith, size, some)) all in
      let more : n - 1 + 1 ≡ n = omega (arith, some) in
      let count : n - 0 ≡ n = omega arith in
      record {
        ordered = omega arith;
        start_boundary = IsCharBoundary-start t utf8;
        end_boundary = subst (IsCharBoundary t) more (IsCharBoundary-after_ascii t (n - 1) utf8 (omega (arith, some, within)) (omega (arith, printable-below_7F (slice_index t (n - 1)) last)));
        bytes = ap (λ m. list_all is_plain_byte (take m t)) count ∙ printable-plain (take n t) all;
      }

  is_walk : (view : View) → IsWalkIn view t w
  is_walk view = record {
    offset = sym (begins t n some within all);
    run = run;
    end = λ e. absurd (omega (arith, e, some));
    break_state = ap break_state_of (sym (seen_before-start view t));
    within = omega arith;
  }

  ahead : (k : ℕ) → k < n → IsPrintable t w k
  ahead k less = printable-shorter n k (is_walk Shown) (omega arith) all less

  pub past-front : (k : ℕ) → k < n → IsPastAscii t w k (advanced w k)
  past-front k less =
      let place = advanced-place w k in
      record {
        front = IsPrintable-front k (is_walk Shown) (λ _. ahead k less);
        walk = λ view is. (passed-printable view t utf8 w k is (ahead k less)).0;
        position = place.0;
        clusters = λ view. clusters-printable view t utf8 w k (is_walk Shown) (λ _. ahead k less);
        seen = λ view. seen_len-printable view t w (advanced w k) k utf8 (is_walk Shown) (passed-printable Shown t utf8 w k (is_walk Shown) (ahead k less)).0 place.0 (IsPrintable-front k (is_walk Shown) (λ _. ahead k less));
      }

  -- it doesn't fit into fewer columns than these bytes less one
  pub bare-before : (width : ℕ) → width + 1 < n → IsPlainBefore t width width plain_style w
  bare-before width less = record {
    is_walk = is_walk Shown;
    front = λ m bytes. (
        let count : 0 + m - 0 ≡ m = omega arith in
        let place : m ≡ 0 + m = omega arith in
        subst (λ k. IsPlainText (take k t) plain_style) place (bare-front (take m t) (ap (λ k. list_all is_printable (take k t)) (sym count) ∙ bytes.bytes)));
    fitting = fitting-begin Shown t width utf8;
    count = width + 1;
    more = omega arith;
    later = advanced w (width + 1);
    past = past-front (width + 1) less;
  }

  -- so it is cut
  pub bare-cut : (width room : ℕ) → width + 1 < n → room ≤ width → IsPlainCut t room plain_style (advanced w room)
  bare-cut width room less narrower =
      plain-cut room room utf8 (bare-before width less) narrower (omega arith) (past-front room (omega (arith, less, narrower))) (advanced-place w room).1

-- ---- an ellipsis after it

abbrev ellipsis : List ℕ
ellipsis = 0xE2 ∷ 0x80 ∷ 0xA6 ∷ []

-- it is one cluster of one column
pub columns-ellipsis : columns (plain ellipsis) ≡ 1
unfolding chars
columns-ellipsis =
    ap columns_of (cluster-begins [] 0x2026 [] ∙ cluster-last (0x2026 ∷ []) (0x2026 ∷ []) (λ none. cc))
    ∙ sum_by-cons cluster_width (0x2026 ∷ []) [] ∙ ap (λ n. n + 0) (sym IsShownSingle-ellipsis.columns_are)

-- where the same is looked back at, a cluster ends or not before the same characters
same_state : (before before' : List ℕ) (c : ℕ) (cs : List ℕ) → before ≢ [] → before' ≢ [] → break_state_of before ≡ break_state_of before' → is_grapheme_break true before (c ∷ cs) ≡ is_grapheme_break true before' (c ∷ cs)
same_state before before' c cs some some' same =
    let s = break_state_of before in
    let v = grapheme_cluster_break c in
    sym (is_grapheme_break-decided s before c cs some refl v refl (break_by_pair true s.last v) refl) ∙ is_grapheme_break-decided s before' c cs some' same v refl (break_by_pair true s.last v) refl

ellipsis-breaks : (before : List ℕ) → before ≢ [] → break_state_of [] ≡ break_state_of before → is_grapheme_break true before (chars ellipsis) ≡ true
unfolding chars
ellipsis-breaks before some state =
    same_state before (0x61 ∷ []) 0x2026 [] some (λ none. cc) (sym state ∙ break_state-printable 0x61 [] refl) ∙ breaks-single [] 0x61 0x2026 [] (IsSingle-printable 0x61 refl) IsShownSingle-ellipsis.single

-- part of the text and the tail are the text truncated, and fitted
pub record IsBareCut (t : List ℕ) (width : ℕ) (tail part : List ℕ) : Type 0 where
  pub truncated_is : part ++ tail ≡ truncated (cell t) width tail
  pub fitted_is : (alignment : Alignment) → part ++ tail ≡ fitted (cell t) width alignment tail

advanced-state : (n k : ℕ) → break_state_of [] ≡ (advanced (walk_at_run 0 0 n) k).break_state
advanced-state n zero = refl
advanced-state n (suc k) = refl

pub bare-truncated : (t : List ℕ) (width n : ℕ) (tail part : List ℕ) → IsUtf8 t → n ≤ length t → list_all is_printable (slice_range t 0 n) ≡ true → width + 1 < n → 0 < width → tail ≡ ellipsis → part ≡ slice_range t 0 (width - 1) → IsBareCut t width tail part
bare-truncated t width n tail part utf8 within printable less some tail_is part_is =
    let room = width - 1 in
    let count : n - 0 ≡ n = omega arith in
    let all : list_all is_printable (take n t) ≡ true = ap (λ k. list_all is_printable (take k t)) (sym count) ∙ printable in
    let cut = bare-cut t utf8 n (omega (arith, less)) within all width room less (omega arith) in
    let v = advanced (walk_at_run 0 0 n) room in
    let columns_are : columns (plain tail) ≡ 1 = ap (λ u. columns (plain u)) tail_is ∙ columns-ellipsis in
    let wide = plain-wide (bare-before t utf8 n (omega (arith, less)) within all width less) in
    let left = width-tail (cell t) tail width wide (omega (arith, columns_are, some)) in
    let room_is : truncated_width (cell t) width tail ≡ room = left.0 ∙ ap (λ k. width - k) columns_are in
    let stands : part ≡ slice_range t 0 v.offset = part_is ∙ ap (slice_range t 0) (omega (arith, (advanced-place (walk_at_run 0 0 n) room).1)) in
    let made = plain-truncated width tail utf8 cut room_is left.1 stands in
    let lack = plain-lack width tail tail utf8 cut room_is left.1 (omega (arith, columns_are, some)) (ap (list_all is_plain_byte) tail_is)
    (λ before filled state. ap (λ u. is_grapheme_break true before (chars u)) tail_is ∙ ellipsis-breaks before filled (advanced-state n room ∙ state)) in
    let bytes : part ++ tail ≡ truncated (cell t) width tail = ap (λ u. u ++ tail) (sym (append-nil part)) ∙ cut-bytes made.cut in
    record {
      truncated_is = bytes;
      fitted_is = λ alignment.
          sym (between-none alignment (part ++ tail)) ∙ padded-between (truncated (cell t) width tail) width alignment (bytes ∙ sym (append-nil _) ∙ ap (λ u. truncated (cell t) width tail ++ u) (sym lack.1)) lack.0;
    }

-- ---- the whole text

pub record IsBareCell (t : List ℕ) (width left : ℕ) (tail : List ℕ) : Type 0 where
  pub truncated_is : t ++ [] ≡ truncated (cell t) width tail
  pub fitted_is : (alignment : Alignment) → between_blanks left alignment (t ++ []) ≡ fitted (cell t) width alignment tail

pub bare-fits : {t : List ℕ} {width left last : ℕ} (tail : List ℕ) → IsUtf8 t → IsPlainCell t width left plain_style last → IsBareCell t width left tail
bare-fits {t} {width} {left} tail utf8 is =
    let made = plain-uncut tail utf8 is in
    let bytes : t ++ [] ≡ truncated (cell t) width tail = sym (append-nil (t ++ [])) ∙ cut-bytes made.cut in
    record {
      truncated_is = bytes;
      fitted_is = λ alignment. padded-between (truncated (cell t) width tail) width alignment (bytes ∙ sym (append-nil _) ∙ ap (λ u. truncated (cell t) width tail ++ u) (sym made.lack.1)) made.lack.0;
    }

-- it stays as it is, and nothing is written after it
pub bare-kept : {t : List ℕ} {width left last : ℕ} (tail : List ℕ) → IsUtf8 t → IsPlainCell t width left plain_style last → KeptStays t width tail × (truncated_ending (cell t) width tail ≡ [])
bare-kept tail utf8 is = (let made = plain-uncut tail utf8 is in (made.kept, sym (cut-ending made.cut)))

pub bare-lack : {t : List ℕ} {width left last : ℕ} (tail : List ℕ) → IsUtf8 t → IsPlainCell t width left plain_style last → IsLack (cell t) width tail left
bare-lack tail utf8 is = (plain-uncut tail utf8 is).lack

pub bare-padded : {t : List ℕ} {most left last : ℕ} (width : ℕ) {blanks : ℕ} → IsPlainCell t most left plain_style last → blanks ≡ width - (most - left) → (alignment : Alignment) → between_blanks blanks alignment t ≡ padded (cell t) width alignment
bare-padded {t} width {blanks} is blanks_are alignment =
    ap (between_blanks blanks alignment) (sym (append-nil t) ∙ sym (append-nil (t ++ []))) ∙ (plain-padded width is blanks_are).bytes alignment

-- ---- a slice of the whole text

module _ (t : List ℕ) (all : list_all is_printable t ≡ true) where
  abbrev x : List ℕ
  x = plain t

  no_escape : has_escape t ≡ false
  no_escape = has_escape-bare t (printable-plain t all)

  plain_is : x ≡ t
  plain_is = bare-plain t no_escape

  marks_is : marks t ≡ []
  marks_is = marks-bare t no_escape

  all_x : list_all is_printable x ≡ true
  all_x = ap (list_all is_printable) plain_is ∙ all

  columns_x : columns x ≡ length x
  columns_x = columns-printable x all_x

  opens-nothing : (o : Option ℕ) → (pen_open t o ≡ []) × (is_pen_plain t o ≡ true)
  opens-nothing None = (refl, refl)
  opens-nothing (Some i) = (
    ap (λ ms. start (style_of (marks_up_to i ms)) ++ link_of (marks_up_to i ms)) marks_is,
    ap (λ ms. not (has_any (style_of (marks_up_to i ms))) && length (link_of (marks_up_to i ms)) == 0) marks_is,
  )

  closes-nothing : (i : ℕ) → pen_close t i ≡ []
  closes-nothing i = ap (λ ms. link_end (link_of (marks_up_to i ms)) ++ close (style_of (marks_up_to i ms))) marks_is

  -- it has no column
  pub bare-nothing : (a b : ℕ) → (b ≤ a) ⊎ (length t ≤ a) → (sliced_up_to t a b ≡ []) × (is_stretch t a b ≡ true)
  unfolding sliced_up_to
  bare-nothing a b nothing =
      let none : has_no_column x a b ≡ true = elim nothing [
        | inl less ↦ or_left (nat_le b a) (nat_le (columns x) a) (le-leb b a less)
        | inr past ↦ or_right (nat_le b a) (nat_le (columns x) a) (le-leb (columns x) a (omega (arith, columns_x, ap length plain_is, past)))
      ] in (
        ap (λ c. if c then [] else slice_opening t a b ++ slice_middle t a b ++ slice_closing t a b) none,
        or_left (has_no_column x a b) _ none,
      )

  -- it is a stretch of the text
  pub bare-sliced : (a b e : ℕ) → a < b → a < length t → ((b < length t) × (e ≡ b)) ⊎ ((length t ≤ b) × (e ≡ length t)) → (sliced_up_to t a b ≡ slice_range t a e) × (is_stretch t a b ≡ true)
  unfolding sliced_up_to
  bare-sliced a b e ordered inside place =
      let size : length x ≡ length t = ap length plain_is in
      let here : a ≤ length x = omega (arith, inside, size) in
      let none : has_no_column x a b ≡ false = ap₂ (λ c d. c || d) (lt-leb b a ordered) (lt-leb (columns x) a (omega (arith, inside, size, columns_x))) in
      let no_blanks : blanks_before x a b ≡ 0 = (let count = begun-columns x all_x a here in omega (arith, count)) in
      let end = end-of x all_x a b e here ordered columns_x (elim place [ inl before ↦ inl (omega (arith, before.0, size), before.1) | inr past ↦ inr (omega (arith, past.0, size), omega (arith, past.1, size)) ]) in
      let o = opened_at x a in
      let middle : slice_middle t a b ≡ slice_range t a e
      = ap₂ (λ i j. interleaved x i j (marks_past o (marks_up_to j (marks t)))) (from-is x all_x a here) end.0
      ∙ ap (λ ms. interleaved x a e (marks_past o (marks_up_to e ms))) marks_is ∙ interleaved-bare x a e ∙ ap (λ u. slice_range u a e) plain_is in
      let opening : slice_opening t a b ≡ [] = ap₂ (λ u n. u ++ blanks n) (opens-nothing o).0 no_blanks in
      let closing : slice_closing t a b ≡ [] = ap₂ (λ n u. blanks n ++ u) end.1 (closes-nothing (bytes_up_to x b)) in (
        ap (λ c. if c then [] else slice_opening t a b ++ slice_middle t a b ++ slice_closing t a b) none
            ∙ ap₂ (λ u v. u ++ slice_middle t a b ++ v) opening closing ∙ append-nil (slice_middle t a b) ∙ middle,
        ap (λ c. c || (is_pen_plain t o && blanks_before x a b == 0 && blanks_after x a b == 0 && length (pen_close t (bytes_up_to x b)) == 0)) none
            ∙ ap₂ (λ c n. c && n == 0 && blanks_after x a b == 0 && length (pen_close t (bytes_up_to x b)) == 0) (opens-nothing o).1 no_blanks
            ∙ ap₂ (λ n u. n == 0 && length u == 0) end.1 (closes-nothing (bytes_up_to x b)),
      )

-- the bytes that are tested are all of the text
pub whole-printable : (t : List ℕ) → list_all is_printable (slice_range t 0 (length t)) ≡ true → list_all is_printable t ≡ true
whole-printable t printable =
    let size : length t - 0 ≡ length t = omega arith in
    ap (list_all is_printable) (sym (ap (λ n. take n t) size ∙ take_all (length t) t (omega arith))) ∙ printable
