-- The parts of a slice: between which places of the text they are, and what they make.
use Rattle.std.proofs.Common.{◌≡◌, ℕ, zero, suc, ◌+◌, ◌-◌, ◌<◌, ◌≤◌, ◌==◌, ◌⊎◌, min, inl, inr, Bool, true, false, not, ◌&&◌, ◌||◌, List, [], ◌∷◌, ◌++◌, length, take, drop, slice_range, nat_le, nat_lt, Option, Some, None, unwrap_or, Result, Ok, Err, IfOk, if◌then◌else◌, IsTrue, refl, sym, ◌∙◌, ap, ap₂, subst, arith, append_assoc, append-nil, length-append}
use Rattle.std.specs.Option.{option_map_or}
use Rattle.std.specs.Cow.{cow_str_bytes}
use Rattle.std.specs.declared.borrow.CowStr.{CowStr}
use Rattle.std.specs.Str.{IsUtf8, IsCharBoundary, byte}
use Rattle.std.proofs.lemmas.Bool.{and_parts, not-true, cases_lt, cases_Bool, cond_both, le-leb, lt-leb, ltb-true, ltb-false, eq-eqb, ne_eqb, eqb-true}
use Rattle.std.proofs.lemmas.Bool.Decides.{nat_tests}
use Rattle.std.proofs.lemmas.List.{length-drop, length-take, length-replicate, length-take-le, get_or-take, nil_from_length}
use Rattle.std.proofs.lemmas.List.Sums.{sum_by-append}
use Rattle.std.proofs.lemmas.Str.{IsCharBoundary-end}
use Rattle.ansi_items.specs.Pieces.{Piece, Text, pieces_of, spelling}
use Rattle.ansi_items.specs.Plain.{Mark, plain, plain_of, marks, marks_up_to}
use Rattle.ansi_items.proofs.JoinLemmas.{spelled, spelled-pieces_of}
use Rattle.ansi_style.specs.declared.state.rendition.Rendition.{Rendition}
use Rattle.ansi_style.specs.Rendition.{plain_style, has_any}
use Rattle.ansi_style.specs.Reading.{style_after_from}
use Rattle.ansi_style.specs.States.{rendition_of}
use Rattle.ansi_style.specs.Sgr.{apply}
use Rattle.ansi_style.specs.Styled.{style_at, style_after, style_of}
use Rattle.ansi_style.specs.Written.{start, close, longest_start_and_close}
use Rattle.ansi_style.proofs.StyleLemmas.{IsStyle-rendition_of}
use Rattle.ansi_style.proofs.UnsetLemmas.{start-unset}
use Rattle.ansi_style.proofs.MarkLemmas.{state_after, state_after-further, marks_up_to-further}
use Rattle.ansi_search.specs.Offsets.{offset_of, bytes_before, StandsIn}
use Rattle.ansi_search.proofs.OffsetLemmas.{plain-after, bytes_before-text}
use Rattle.ansi_search.specs.Positions.{no_character_goes_on}
use Rattle.ansi_search.proofs.PositionLemmas.{no_character_goes_on-past, no_character_goes_on-drop, no_character_goes_on-boundary}
use Rattle.ansi_search.proofs.SliceLemmas.{slice_range-none}
use Rattle.ansi_slice.specs.Cut.{interleaved}
use Rattle.ansi_slice.specs.Kept.{kept}
use Rattle.ansi_slice.specs.Stretches.{sequences_up_to}
use Rattle.ansi_slice.proofs.KeptWalkLemmas.{kept-all}
use Rattle.ansi_slice.proofs.LengthLemmas.{length-kept, length-start}
use Rattle.ansi_slice.proofs.StretchLemmas.{kept-rest}
use Rattle.ansi_slice.proofs.InterleavedLemmas.{interleaved-nil}
use Rattle.ansi_slice.proofs.ShownLemmas.{at_places, state_through-interleaved_pieces}
use Rattle.ansi_split.specs.Parts.{marks_past}
use Rattle.ansi_split.specs.Spans.{marks_further_on, IsCutAfter}
use Rattle.ansi_split.proofs.AfterLemmas.{is_cut_after}
use Rattle.ansi_split.proofs.PartSliceLemmas.{Divides, state-divided, at_places-never, own_places, earlier_places, marks_past-places}
use Rattle.ansi_split.proofs.SpanLemmas.{interleaved-after}
use Rattle.ansi_safe.specs.Links.{is_link, opens_link, longest_link_end, link_after, link_after_all, link_of, link_at, link_end, pen_close}
use Rattle.ansi_safe.proofs.EndingLemmas.{length-closing}
use Rattle.ansi_safe.proofs.LinkLemmas.{link_of-fold, link_of-pieces, link_through}
use Rattle.ansi_cells.specs.declared.slices.Edge.{Edge}
use Rattle.ansi_cells.specs.declared.slices.Parts.{Parts}
use Rattle.ansi_clusters.specs.Columns.{clusters, cluster_width, columns_of, columns, bytes_of}
use Rattle.ansi_clusters.specs.Lines.{blanks}
use Rattle.ansi_clusters.specs.Walks.{clusters_from}
use Rattle.ansi_cells.specs.Slices.{ended, begun, has_no_column, column_place, bytes_from, bytes_up_to, blanks_before, blanks_after, opened_at, pen_open, slice_opening, slice_middle, slice_blanks, slice_closing, sliced_up_to, sliced, is_pen_plain, IsEdge, closed_at, AreWhole, parts_opening, parts_closing, joined_parts, is_middle_alone, AreParts}
use Rattle.ansi_clusters.proofs.ColumnLemmas.{clusters_from-start}
use Rattle.ansi_cells.proofs.EdgeLemmas.{bytes_of-append, ended-zero, ended-within, ended-rest, ended-later, ended-whole, begun-whole, begun-within}
use Rattle.ansi_clusters.proofs.PlaceLemmas.{offset_of-add, marks-before}
use Rattle.ansi_clusters.proofs.WalkLemmas.{walk_boundary}

-- The offset of the end of a text.

all_before : (n : ℕ) (ps : List Piece) → length (plain_of ps) ≤ n → bytes_before n ps ≡ length (spelled ps)
all_before n [] past = refl
all_before n (Text w ∷ ps) past =
    let size = length-append w (plain_of ps) in
    omega (arith, bytes_before-text n w ps (omega (arith, size, past)), length-append w (spelled ps), all_before (n - length w) ps (omega (arith, size, past)))
all_before n (p ∷ ps) past = omega (arith, length-append (spelling p) (spelled ps), all_before n ps past)

pub offset_of-end : (t : List ℕ) → offset_of t (length (plain t)) ≡ length t
offset_of-end t = all_before (length (plain t)) (pieces_of t) (omega arith) ∙ ap length (spelled-pieces_of t)

-- Where the slice ends.

pub record IsEnd (t : List ℕ) (a b : ℕ) (end : ℕ × ℕ) : Type 0 where
  pub offset : end.0 ≡ offset_of t (bytes_up_to (plain t) b)
  pub boundary : IsCharBoundary t end.0
  pub blanks : end.1 ≡ blanks_after (plain t) a b
  pub ordered : column_place (plain t) a ≤ bytes_up_to (plain t) b
  pub within : bytes_up_to (plain t) b ≤ length (plain t)
  pub hidden : (bytes_from (plain t) a ≤ bytes_up_to (plain t) b) ⊎ ((0 < a) × (bytes_up_to (plain t) b ≡ column_place (plain t) a))

module _ (t : List ℕ) (a b here : ℕ) (first : Edge) (at_start : here ≡ 0) (is_first : IsEdge t here a first) where
  abbrev x : List ℕ
  x = plain t

  abbrev ks : List (List ℕ)
  ks = clusters x

  from_start : clusters_from t here ≡ ks
  from_start = ap (clusters_from t) at_start ∙ clusters_from-start t

  pub first-place : first.start.position ≡ column_place x a
  first-place = omega (arith, at_start, is_first.start, ap (λ ls. bytes_of (ended a ls)) from_start)

  pub first-end : first.end.position ≡ bytes_from x a
  first-end = omega (arith, at_start, is_first.end, ap (λ ls. bytes_of (begun a ls)) from_start)

  pub first-before : first.before ≡ a - columns_of (ended a ks)
  first-before = omega (arith, is_first.before, ap (λ ls. columns_of (ended a ls)) from_start)

  pub first-after : first.after ≡ columns_of (begun a ks) - a
  first-after = omega (arith, is_first.after, ap (λ ls. columns_of (begun a ls)) from_start)

  abbrev rest : List (List ℕ)
  rest = clusters_from t first.start.position

  first-rest : ks ≡ ended a ks ++ rest
  first-rest = sym from_start ∙ is_first.rest ∙ ap (λ ls. ended a ls ++ rest) from_start

  pub first-some : nat_lt 0 (columns_of rest) ≡ true → nat_le (columns x) a ≡ false
  first-some some = lt-leb (columns x) a (ended-rest a ks rest first-rest (ltb-true 0 (columns_of rest) some))

  pub first-none : nat_lt 0 (columns_of rest) ≡ false → nat_le (columns x) a ≡ true
  first-none none =
      le-leb (columns x) a
      (omega (arith, ltb-false 0 (columns_of rest) none, ended-within a ks, ap columns_of first-rest, sum_by-append cluster_width (ended a ks) rest))

  module _ (last : Edge) (is_last : IsEdge t first.start.position (first.before + (b - a)) last) (ordered : a < b) where
    room : first.before + (b - a) ≡ b - columns_of (ended a ks)
    room = omega (arith, ordered, first-before, ended-within a ks)

    later : ended b ks ≡ ended a ks ++ ended (first.before + (b - a)) rest
    later = ended-later a b ks rest (omega (arith, ordered)) first-rest ∙ ap (λ n. ended a ks ++ ended n rest) (sym room)

    abbrev left : List (List ℕ)
    left = clusters_from t last.start.position

    last-place : last.start.position ≡ column_place x b
    last-place = omega (arith, is_last.start, first-place, ap bytes_of later, bytes_of-append (ended a ks) (ended (first.before + (b - a)) rest))

    last-before : last.before ≡ b - columns_of (ended b ks)
    last-before = omega (arith, is_last.before, room, ended-within a ks, ap columns_of later, sum_by-append cluster_width (ended a ks) (ended (first.before + (b - a)) rest))

    last-rest : ks ≡ ended b ks ++ left
    last-rest =
        first-rest ∙ ap (λ ls. ended a ks ++ ls) is_last.rest ∙ sym (append_assoc (ended a ks) (ended (first.before + (b - a)) rest) left)
        ∙ ap (λ ls. ls ++ left) (sym later)

    abbrev end : ℕ × ℕ
    end = closed_at t first.end.position last

    is_end-more : nat_lt 0 (columns_of left) ≡ true → IsEnd t a b end
    is_end-more some =
        let wide : nat_le (columns x) b ≡ false = lt-leb (columns x) b (ended-rest b ks left last-rest (ltb-true 0 (columns_of left) some)) in
        let place : bytes_up_to x b ≡ column_place x b = ap (λ c. if c then length x else column_place x b) wide in
        let is : end ≡ (last.start.offset, if nat_lt last.start.position first.end.position then 0 else last.before)
        = ap (λ c. if c then (last.start.offset, if nat_lt last.start.position first.end.position then 0 else last.before) else (length t, 0)) some in
        let blanks_are : (if nat_lt last.start.position first.end.position then 0 else last.before) ≡ blanks_after x a b
        = ap₂ (λ p q. if nat_lt p q then 0 else last.before) last-place first-end ∙ ap (λ n. if nat_lt (column_place x b) (bytes_from x a) then 0 else n) last-before
        ∙ ap (λ c. if c || nat_lt (column_place x b) (bytes_from x a) then 0 else b - columns_of (ended b ks)) (sym wide) in
        record {
          offset = ap (λ e. e.0) is ∙ is_last.start_walk.offset ∙ ap (offset_of t) (last-place ∙ sym place);
          boundary = subst (IsCharBoundary t) (sym (ap (λ e. e.0) is)) is_last.start_walk.run.start_boundary;
          blanks = ap (λ e. e.1) is ∙ blanks_are;
          ordered = omega (arith, place, last-place, is_last.start, first-place);
          within = omega (arith, place, last-place, is_last.start_walk.within);
          hidden = elim (cases_lt (column_place x b) (bytes_from x a)) [
            | inl inside ↦ (let same = ended-whole a b ks (omega (arith, ordered)) inside in inr (same.0, place ∙ same.1))
            | inr past ↦ inl (omega (arith, place, past))
          ];
        }

    is_end-none : nat_lt 0 (columns_of left) ≡ false → IsEnd t a b end
    is_end-none none =
        let fits : nat_le (columns x) b ≡ true
        = le-leb (columns x) b (omega (arith, ltb-false 0 (columns_of left) none, ended-within b ks, ap columns_of last-rest, sum_by-append cluster_width (ended b ks) left)) in
        let place : bytes_up_to x b ≡ length x = ap (λ c. if c then length x else column_place x b) fits in
        let is : end ≡ (length t, 0) = ap (λ c. if c then (last.start.offset, if nat_lt last.start.position first.end.position then 0 else last.before) else (length t, 0)) none in
        record {
          offset = ap (λ e. e.0) is ∙ sym (ap (offset_of t) place ∙ offset_of-end t);
          boundary = subst (IsCharBoundary t) (sym (ap (λ e. e.0) is)) (IsCharBoundary-end t);
          blanks = ap (λ e. e.1) is ∙ sym (ap (λ c. if c || nat_lt (column_place x b) (bytes_from x a) then 0 else b - columns_of (ended b ks)) fits);
          ordered = omega (arith, place, first-place, is_first.start_walk.within);
          within = omega (arith, place);
          hidden = inl (omega (arith, place, first-end, is_first.end_walk.within));
        }

    pub is_end : IsEnd t a b end
    is_end = elim (cases_Bool (nat_lt 0 (columns_of left))) [
      | inl some ↦ is_end-more some
      | inr none ↦ is_end-none none
    ]

-- The pen that is opened, and where.

abbrev pub IsOpenedAt : List ℕ → Option ℕ → ℕ → ℕ → Type 0
IsOpenedAt t before k from = ((before ≡ None) × (k ≡ 0) × (from ≡ 0)) ⊎ ((before ≡ Some k) × (from ≡ offset_of t k))

marks_past-none : (ms : List Mark) → marks_past None ms ≡ ms
marks_past-none [] = refl
marks_past-none (m ∷ ms) = ap (λ ls. m ∷ ls) (marks_past-none ms)

marks_further_on-none : (ms : List Mark) → marks_further_on 0 ms ≡ ms
marks_further_on-none [] = refl
marks_further_on-none (m ∷ ms) = ap₂ (λ n ls. record m { place = n } ∷ ls) (omega arith) (marks_further_on-none ms)

marks_past-up_to : (before : Option ℕ) (e : ℕ) (ms : List Mark) → marks_past before (marks_up_to e ms) ≡ marks_up_to e (marks_past before ms)
marks_past-up_to before e [] = refl
marks_past-up_to before e (m ∷ ms) = grind (arith, marks_past-up_to before e ms)

pub part_divides : (before : Option ℕ) (k e : ℕ) → (before ≡ None) ⊎ (before ≡ Some k) → k ≤ e → Divides (option_map_or (λ i. i + 1) before 0) (earlier_places before) (own_places before e) (λ p. nat_le p e)
part_divides None k e is after = record {
  early_before = λ p none. absurd (omega (arith, none));
  early_from = λ p from. refl;
  late_before = λ p none. absurd (omega (arith, none));
  late_from = λ p from. grind (arith, nat_tests);
  both_before = λ p none. absurd (omega (arith, none));
}
part_divides (Some i) k e (inl is) after = absurd (cc is)
part_divides (Some i) k e (inr is) after =
    let same : i ≡ k = cc is in
    let below : i ≤ e = omega (arith, same, after) in
    record {
      early_before = λ p before. grind (arith, nat_tests);
      early_from = λ p from. grind (arith, nat_tests);
      late_before = λ p before. grind (arith, nat_tests);
      late_from = λ p from. grind (arith, nat_tests);
      both_before = λ p before. grind (arith, nat_tests);
    }

-- ---- the text of the slice, from the offset `from` up to the offset `to`

module _ (t : List ℕ) (before : Option ℕ) (k from e to : ℕ) (opens : IsOpenedAt t before k from) (ordered : k ≤ e) (within : e ≤ length (plain t)) (ends : to ≡ offset_of t e) where
  abbrev onward : List ℕ
  onward = drop from t

  abbrev text : List ℕ
  text = slice_range t from to

  offset-onward : to ≡ from + offset_of onward (e - k)
  offset-onward = by_case opens
    where
      by_case : IsOpenedAt t before k from → to ≡ from + offset_of onward (e - k)
      by_case (inl none) =
          let all : e ≡ e - k = omega (arith, none.1) in
          omega (arith, ends, ap (offset_of t) all, ap (λ n. n + offset_of (drop n t) (e - k)) none.2)
      by_case (inr some) =
          let all : e ≡ k + (e - k) = omega (arith, ordered) in
          ends ∙ ap (offset_of t) all ∙ offset_of-add t k (e - k) ∙ ap (λ n. n + offset_of (drop n t) (e - k)) (sym some.1)

  pub text-ordered : from ≤ to
  text-ordered = omega (arith, offset-onward)

  plain-onward : plain onward ≡ drop k (plain t)
  plain-onward = by_case opens
    where
      by_case : IsOpenedAt t before k from → plain onward ≡ drop k (plain t)
      by_case (inl none) = ap (λ n. plain (drop n t)) none.2 ∙ sym (ap (λ n. drop n (plain t)) none.1)
      by_case (inr some) = ap (λ n. plain (drop n t)) some.1 ∙ plain-after t k

  cut : IsCutAfter onward (e - k) text (drop (to - from) onward)
  cut = is_cut_after onward (e - k) (to - from) (omega (arith, offset-onward))

  pub length-text : length (plain text) ≡ e - k
  length-text =
      let size : length (plain onward) ≡ length (plain t) - k = ap length plain-onward ∙ length-drop k (plain t) in
      ap length cut.plain_front ∙ length-take-le (e - k) (plain onward) (omega (arith, size, within))

  -- a character begins where one does in the whole text
  pub good-text : (s : ℕ) → k ≤ s → IsTrue (no_character_goes_on (plain t) s) → IsTrue (no_character_goes_on (plain text) (s - k))
  good-text s after good =
      let all : k + (s - k) ≡ s = omega (arith, after) in
      let good-onward : no_character_goes_on (plain onward) (s - k) ≡ true
      = ap (λ u. no_character_goes_on u (s - k)) plain-onward ∙ no_character_goes_on-drop (plain t) k (s - k) ∙ ap (no_character_goes_on (plain t)) all ∙ good in
      ap (λ u. no_character_goes_on u (s - k)) cut.plain_front ∙ elim (cases_lt (s - k) (e - k)) [
        | inl less ↦ ap (λ b. no_character_goes_on (b ∷ []) 0) (get_or-take (e - k) (plain onward) (s - k) 0 less) ∙ good-onward
        | inr past ↦ no_character_goes_on-past (take (e - k) (plain onward)) (s - k) (omega (arith, past, ap length cut.plain_front, length-text))
      ]

  own-marks : marks_past before (marks_up_to e (marks t)) ≡ marks_further_on k (marks text)
  own-marks = by_case opens ∙ marks_up_to-further e k (marks onward) ordered ∙ ap (marks_further_on k) (sym cut.marks_front)
    where
      by_case : IsOpenedAt t before k from → marks_past before (marks_up_to e (marks t)) ≡ marks_up_to e (marks_further_on k (marks onward))
      by_case (inl none) =
          ap (λ o. marks_past o (marks_up_to e (marks t))) none.0 ∙ marks_past-none (marks_up_to e (marks t))
          ∙ ap (marks_up_to e) (sym (ap₂ (λ n i. marks_further_on n (marks (drop i t))) none.1 none.2 ∙ marks_further_on-none (marks t)))
      by_case (inr some) =
          ap (λ o. marks_past o (marks_up_to e (marks t))) some.0 ∙ marks_past-up_to (Some k) e (marks t)
          ∙ ap (marks_up_to e) ((is_cut_after t k (offset_of t k) refl).marks_after ∙ ap (λ i. marks_further_on k (marks (drop i t))) (sym some.1))

  -- what is shown of it is what is shown of the whole text
  pub kept-text : (s : ℕ) → k ≤ s → kept text (s - k) (length (plain text)) ≡ interleaved (plain t) s e (marks_past before (marks_up_to e (marks t)))
  unfolding kept
  kept-text s after =
      let from_is : k + (s - k) ≡ s = omega (arith, after) in
      let to_is : k + (e - k) ≡ e = omega (arith, ordered) in
      sym (
      ap (interleaved (plain t) s e) own-marks
      ∙ sym (ap₂ (λ i j. interleaved (plain t) i j (marks_further_on k (marks text))) from_is to_is)
      ∙ interleaved-after (plain t) k (s - k) (e - k) (marks text) (omega (arith, ordered, within))
      ∙ ap₂ (λ y ms. interleaved y (s - k) (e - k) ms) (sym plain-onward) cut.marks_front
      ∙ cut.interleaved_front (s - k)
      ∙ ap (λ n. interleaved (plain text) (s - k) n (marks text)) (sym length-text))

  -- the state after it
  module _ {S : Type 0} (step : S → List ℕ → S) (first : S) where
    marks-before_text : state_after step first (marks (take from t)) ≡ state_after step first (at_places (earlier_places before) (marks t))
    marks-before_text = by_case opens
      where
        by_case : IsOpenedAt t before k from → state_after step first (marks (take from t)) ≡ state_after step first (at_places (earlier_places before) (marks t))
        by_case (inl none) =
            ap (λ n. state_after step first (marks (take n t))) none.2
            ∙ sym (ap (λ o. state_after step first (at_places (earlier_places o) (marks t))) none.0 ∙ ap (state_after step first) (at_places-never (marks t)))
        by_case (inr some) =
            ap (λ n. state_after step first (marks (take n t))) some.1 ∙ ap (state_after step first) (marks-before t k)
            ∙ sym (ap (λ o. state_after step first (at_places (earlier_places o) (marks t))) some.0)

    pub state-text : state_after step (state_after step first (marks (take from t))) (marks text) ≡ state_after step first (marks_up_to e (marks t))
    state-text =
        let early = earlier_places before in
        let own = own_places before e in
        let both : ℕ → Bool = λ p. nat_le p e in
        let middle = state_after step first (at_places early (marks t)) in
        ap (λ s. state_after step s (marks text)) marks-before_text
        ∙ sym (state_after-further step middle k (marks text))
        ∙ ap (state_after step middle) (sym own-marks ∙ marks_past-places before e (marks t))
        ∙ sym (state_through-interleaved_pieces step (pieces_of t) middle own e e)
        ∙ state-divided step first t (option_map_or (λ i. i + 1) before 0) early own both (e, e) (part_divides before k e (which opens) ordered) (begins opens)
      where
        which : IsOpenedAt t before k from → (before ≡ None) ⊎ (before ≡ Some k)
        which (inl none) = inl none.0
        which (inr some) = inr some.0

        begins : IsOpenedAt t before k from → option_map_or (λ i. i + 1) before 0 ≤ e + 1
        begins (inl none) = omega (arith, ap (λ o. option_map_or (λ i. i + 1) o 0) none.0)
        begins (inr some) = omega (arith, ordered, ap (λ o. option_map_or (λ i. i + 1) o 0) some.0)

  -- the pen before it, and the pen after it
  pub opened-pen : {style : Rendition} {link : List ℕ} → style ≡ style_after (take from t) → link ≡ link_of (marks (take from t))
      → (start style ++ link ≡ pen_open t before) × ((not (has_any style) && length link == 0) ≡ is_pen_plain t before)
  opened-pen {style} {link} style_is link_is = by_case opens
    where
      by_case : IsOpenedAt t before k from → (start style ++ link ≡ pen_open t before) × ((not (has_any style) && length link == 0) ≡ is_pen_plain t before)
      by_case (inl none) =
          let plain_is : style ≡ plain_style = style_is ∙ ap (λ n. style_after (take n t)) none.2 in
          let no_link : link ≡ [] = link_is ∙ ap (λ n. link_of (marks (take n t))) none.2 in (
            ap₂ (λ s l. start s ++ l) plain_is no_link ∙ sym (ap (pen_open t) none.0),
            ap₂ (λ s l. not (has_any s) && length l == 0) plain_is no_link ∙ sym (ap (is_pen_plain t) none.0),
          )
      by_case (inr some) =
          let same : marks (take from t) ≡ marks_up_to k (marks t) = ap (λ n. marks (take n t)) some.1 ∙ marks-before t k in
          let style_there : style ≡ style_at t k = style_is ∙ ap style_of same in
          let link_there : link ≡ link_at t k = link_is ∙ ap link_of same in (
            ap₂ (λ s l. start s ++ l) style_there link_there ∙ sym (ap (pen_open t) some.0),
            ap₂ (λ s l. not (has_any s) && length l == 0) style_there link_there ∙ sym (ap (is_pen_plain t) some.0),
          )

  pub closed-pen : {style style' : Rendition} {link link' : List ℕ} → style ≡ style_after (take from t) → link ≡ link_of (marks (take from t)) → style' ≡ style_after_from style text → link' ≡ link_after_all link (marks text)
      → link_end link' ++ close style' ≡ pen_close t e
  closed-pen {style} {style'} {link} {link'} style_is link_is style_after_is link_after_is =
      ap₂ (λ l s. link_end l ++ close s)
      (link_after_is ∙ ap (λ l. link_after_all l (marks text)) (link_is ∙ link_of-fold (marks (take from t))) ∙ state-text link_after [] ∙ sym (link_of-fold (marks_up_to e (marks t))))
      (style_after_is ∙ ap (λ s. style_after_from s text) style_is ∙ state-text apply plain_style)

-- ---- how long it is

length-link_after : (link w : List ℕ) → length (link_after link w) ≤ length link + length w
length-link_after link w =
    cond_both (is_link w) (if opens_link w then w else []) link (λ l. length l ≤ length link + length w)
    (λ yes. cond_both (opens_link w) w [] (λ l. length l ≤ length link + length w) (λ opens. omega arith) (λ ends. omega arith))
    (λ no. omega arith)

length-link_through : (link : List ℕ) (ps : List Piece) → length (link_through link ps) ≤ length link + length (spelled ps)
length-link_through link [] = omega arith
length-link_through link (Text w ∷ ps) = omega (arith, length-append w (spelled ps), length-link_through link ps)
length-link_through link (p ∷ ps) =
    omega (arith, length-append (spelling p) (spelled ps), length-link_after link (spelling p), length-link_through (link_after link (spelling p)) ps)

length-link_of : (t : List ℕ) → length (link_of (marks t)) ≤ length t
length-link_of t = omega (arith, ap length (link_of-pieces (pieces_of t)), length-link_through [] (pieces_of t), ap length (spelled-pieces_of t))

-- the link that is carried, and the text after the sequence that opened it, are in the text
pub link-within : (t : List ℕ) (from to : ℕ) → length (link_of (marks (take from t))) + length (slice_range t from to) ≤ length t
link-within t from to = omega (arith, length-link_of (take from t), length-take from t, length-take (to - from) (drop from t), length-drop from t)

-- the parts have no more bytes than each of them together, and all of the text's
pub length-joined : (parts : Parts)
    → length (joined_parts parts) ≤ length (start (rendition_of parts.opened.style)) + length parts.opened.link.now + parts.before + length parts.text.now + parts.after + length (link_end parts.closed.link.now ++ close (rendition_of parts.closed.style))
length-joined parts =
    let style = rendition_of parts.opened.style in
    let link = parts.opened.link.now in
    let text = parts.text.now in
    let shown = kept text parts.hidden (length (plain text)) in
    let closing = link_end parts.closed.link.now ++ close (rendition_of parts.closed.style) in
    omega (
      arith,
      length-append (parts_opening parts ++ shown) (parts_closing parts),
      length-append (parts_opening parts) shown,
      length-append (start style ++ link) (blanks parts.before),
      length-append (start style) link,
      length-append (blanks parts.after) closing,
      length-replicate parts.before (byte " "),
      length-replicate parts.after (byte " "),
      length-kept text parts.hidden (length (plain text)),
    )

pub length-parts : (parts : Parts) (t : List ℕ) {n : ℕ} → length parts.opened.link.now + length parts.text.now ≤ length t → parts.before + parts.after ≡ n
    → length (joined_parts parts) ≤ length t + n + longest_start_and_close + longest_link_end
length-parts parts t within count =
    omega (
      arith,
      within,
      count,
      length-joined parts,
      length-start (rendition_of parts.opened.style) (IsStyle-rendition_of parts.opened.style),
      length-closing parts.closed.link.now (rendition_of parts.closed.style),
    )

-- ---- the parts together

min-less : (c a b : ℕ) → min (c - a) (b - a) ≡ min c b - a
min-less c a b = grind arith

-- the pen is opened at the column a
module _ (t : List ℕ) (a b here : ℕ) (first last : Edge) (at_start : here ≡ 0) (is_first : IsEdge t here a first) (is_last : IsEdge t first.start.position (first.before + (b - a)) last) (ordered : a < b)
    (from to : ℕ) (from_is : from ≡ (if a == 0 then 0 else first.start.offset)) (to_is : to ≡ (closed_at t first.end.position last).0) where
  abbrev y : List ℕ
  y = plain t

  abbrev place : ℕ
  place = column_place y a

  abbrev opened : Option ℕ
  opened = opened_at y a

  opens : IsOpenedAt t opened place from
  opens = elim (cases_lt 0 a) [
    | inl some ↦ (
        let other : (a == 0) ≡ false = ne_eqb a 0 (λ none. omega (arith, none, some)) in
        inr (
          ap (λ c. if c then None else Some place) other,
          from_is ∙ ap (λ c. if c then 0 else first.start.offset) other ∙ is_first.start_walk.offset ∙ ap (offset_of t) (first-place t a b here first at_start is_first),
        ))
    | inr none ↦
        let zero_is : a ≡ 0 = omega (arith, none) in
        let same : (a == 0) ≡ true = eq-eqb a 0 zero_is in
        inl (
          ap (λ c. if c then None else Some place) same,
          ap (λ n. bytes_of (ended n (clusters y))) zero_is ∙ ap bytes_of (ended-zero (clusters y)),
          from_is ∙ ap (λ c. if c then 0 else first.start.offset) same,
        )
  ]

  is : IsEnd t a b (closed_at t first.end.position last)
  is = is_end t a b here first at_start is_first last is_last ordered

  ends : to ≡ offset_of t (bytes_up_to y b)
  ends = to_is ∙ is.offset

  pub from-ordered : from ≤ to
  from-ordered = text-ordered t opened place from (bytes_up_to y b) to opens is.ordered is.within ends

  pub to-boundary : IsCharBoundary t to
  to-boundary = subst (IsCharBoundary t) (sym to_is) is.boundary

  pub from-boundary : IsCharBoundary t 0 → IsCharBoundary t from
  from-boundary start = elim (cases_Bool (a == 0)) [
    | inl same ↦ subst (IsCharBoundary t) (sym (from_is ∙ ap (λ c. if c then 0 else first.start.offset) same)) start
    | inr other ↦ subst (IsCharBoundary t) (sym (from_is ∙ ap (λ c. if c then 0 else first.start.offset) other)) is_first.start_walk.run.start_boundary
  ]

  -- an edge hides no more than the text has
  hidden-within : {text : List ℕ} {hidden : ℕ} → text ≡ slice_range t from to → hidden ≡ first.end.position - first.start.position → (hidden ≤ length (plain text)) ⊎ (text ≡ [])
  hidden-within {text} {hidden} text_is hidden_is = elim is.hidden [
    | inl inside ↦ inl (omega (
      arith,
      inside,
      hidden_is,
      first-end t a b here first at_start is_first,
      first-place t a b here first at_start is_first,
      ap (λ u. length (plain u)) text_is,
      length-text t opened place from (bytes_up_to y b) to opens is.ordered is.within ends,
    ))
    | inr past ↦ inr (text_is ∙ slice_range-none t from to (elim opens [
      | inl none ↦ absurd (cc (none.0, ap (λ c. if c then None else Some place) (ne_eqb a 0 (λ zero_is. omega (arith, zero_is, past.0)))))
      | inr some ↦ omega (arith, ends, some.1, ap (offset_of t) past.1)
    ]))
  ]

  -- an edge that divides no cluster hides nothing
  shown-whole : {hidden : ℕ} → hidden ≡ first.end.position - first.start.position → min first.after (b - a) ≡ 0 → hidden ≡ 0
  shown-whole {hidden} hidden_is none =
      let size = first-after t a b here first at_start is_first in
      let within : columns_of (begun a (clusters y)) ≤ a = elim (cases_lt a (columns_of (begun a (clusters y)))) [
        | inl more ↦ absurd (omega (arith, none, ordered, more, size))
        | inr fits ↦ fits
      ] in
      omega (arith, hidden_is, first-end t a b here first at_start is_first, first-place t a b here first at_start is_first, begun-whole a (clusters y) within)

  pub are_parts : (parts : Parts) → IsUtf8 t → nat_lt 0 (columns_of (clusters_from t first.start.position)) ≡ true → parts.text.now ≡ slice_range t from to
      → rendition_of parts.opened.style ≡ style_after (take from t) → parts.opened.link.now ≡ link_of (marks (take from t))
      → rendition_of parts.closed.style ≡ style_after_from (rendition_of parts.opened.style) parts.text.now → parts.closed.link.now ≡ link_after_all parts.opened.link.now (marks parts.text.now)
      → parts.before ≡ min first.after (b - a) → parts.hidden ≡ first.end.position - first.start.position → parts.after ≡ (closed_at t first.end.position last).1 → AreParts t a b parts
  unfolding sliced_up_to
  are_parts parts utf8 some text_is opened_style opened_link closed_style closed_link before_is hidden_is after_is =
      let e = bytes_up_to y b in
      let text = slice_range t from to in
      let none : has_no_column y a b ≡ false = ap₂ (λ c d. c || d) (lt-leb b a ordered) (first-some t a b here first at_start is_first some) in
      let blanks_are : parts.before ≡ blanks_before y a b
      = before_is ∙ ap (λ n. min n (b - a)) (first-after t a b here first at_start is_first) ∙ min-less (columns_of (begun a (clusters y))) a b in
      let pen = opened-pen t opened place from e to opens is.ordered is.within ends opened_style opened_link in
      let hidden : parts.hidden ≡ bytes_from y a - place = omega (arith, hidden_is, first-end t a b here first at_start is_first, first-place t a b here first at_start is_first) in
      let after_place : place ≤ bytes_from y a = omega (arith, is_first.ordered, first-end t a b here first at_start is_first, first-place t a b here first at_start is_first) in
      let middle : kept parts.text.now parts.hidden (length (plain parts.text.now)) ≡ slice_middle t a b
      = ap₂ (λ u n. kept u n (length (plain u))) text_is hidden ∙ kept-text t opened place from e to opens is.ordered is.within ends (bytes_from y a) after_place in
      let close_is : link_end parts.closed.link.now ++ close (rendition_of parts.closed.style) ≡ pen_close t e
      = closed-pen t opened place from e to opens is.ordered is.within ends opened_style opened_link (closed_style ∙ ap (style_after_from (rendition_of parts.opened.style)) text_is)
      (closed_link ∙ ap (λ u. link_after_all parts.opened.link.now (marks u)) text_is) in
      let after : parts.after ≡ blanks_after y a b = after_is ∙ is.blanks in
      let good : IsTrue (no_character_goes_on y (bytes_from y a))
      = subst (λ n. IsTrue (no_character_goes_on y n)) (first-end t a b here first at_start is_first) (no_character_goes_on-boundary y first.end.position (walk_boundary t utf8 first.end is_first.end_walk)) in
      let whole : AreWhole parts = record { good = subst (λ u. IsTrue (no_character_goes_on (plain u) parts.hidden)) (sym text_is) (subst (λ n. IsTrue (no_character_goes_on (plain text) n)) (sym hidden) (good-text t opened place from e to opens is.ordered is.within ends (bytes_from y a) after_place good)); shown = λ zero_is. shown-whole hidden_is (sym before_is ∙ zero_is); within = hidden-within text_is hidden_is } in
      record {
        some = none;
        whole = whole;
        bytes = ap₂ (λ u v. u ++ v) (ap₂ (λ u v. u ++ v) (ap₂ (λ u n. u ++ blanks n) pen.0 blanks_are) middle) (ap₂ (λ n u. blanks n ++ u) after close_is)
            ∙ sym (ap (λ c. if c then [] else slice_opening t a b ++ slice_middle t a b ++ slice_closing t a b) none);
        alone = ap₂ (λ c d. c && d) (ap₂ (λ c d. c && d) (ap₂ (λ c n. c && n == 0) pen.1 blanks_are) (ap (λ n. n == 0) after)) (ap (λ u. length u == 0) close_is)
            ∙ sym (ap (λ c. c || (is_pen_plain t opened && blanks_before y a b == 0 && blanks_after y a b == 0 && length (pen_close t e) == 0)) none);
        len = length-parts parts t (omega (arith, link-within t from to, ap length opened_link, ap length text_is)) (ap₂ (λ m n. m + n) blanks_are after);
      }

-- ---- what is written

-- the sequences before the hidden bytes, and what follows those
pub text-written : {t rest : List ℕ} {s from : ℕ} → (s ≤ length (plain t)) ⊎ (t ≡ []) → StandsIn t s from → rest ≡ drop from t → sequences_up_to s (pieces_of t) ++ rest ≡ kept t s (length (plain t))
unfolding kept
text-written (inl inside) stands rest_is = kept-rest inside stands rest_is
text-written {t} {rest} {s} {from} (inr none) stands rest_is =
    ap₂ (λ u v. sequences_up_to s (pieces_of u) ++ v) none (rest_is ∙ ap (drop from) none ∙ drop-nil from)
    ∙ sym (ap (λ u. interleaved (plain u) s (length (plain u)) (marks u)) none ∙ interleaved-nil s 0)
  where
    drop-nil : (n : ℕ) → drop {A = ℕ} n [] ≡ []
    drop-nil zero = refl
    drop-nil (suc n) = refl

pub parts-written : {u v opening middle : List ℕ} (sequences text after closing : List ℕ) → u ≡ opening → sequences ++ text ≡ middle → v ≡ ((u ++ sequences) ++ text) ++ after → v ++ closing ≡ opening ++ middle ++ (after ++ closing)
parts-written {u} {v} {opening} {middle} sequences text after closing first second written =
    ap (λ w. w ++ closing) written
    ∙ append_assoc ((u ++ sequences) ++ text) after closing
    ∙ ap (λ w. w ++ (after ++ closing)) (append_assoc u sequences text ∙ ap₂ (λ o m. o ++ m) first second)

-- the text alone
pub alone-bytes : (parts : Parts) → AreWhole parts → is_middle_alone parts ≡ true → parts.text.now ≡ joined_parts parts
alone-bytes parts whole alone =
    let last = and_parts _ _ alone in
    let third = and_parts _ _ last.0 in
    let pen = and_parts _ _ third.0 in
    let plain_pen = and_parts _ _ pen.0 in
    let style = rendition_of parts.opened.style in
    let link = parts.opened.link.now in
    let text = parts.text.now in
    let closing = link_end parts.closed.link.now ++ close (rendition_of parts.closed.style) in
    let no_style : start style ≡ [] = start-unset style (not-true (has_any style) plain_pen.0) in
    let no_link : link ≡ [] = nil_from_length link (eqb-true (length link) 0 plain_pen.1) in
    let none_before : parts.before ≡ 0 = eqb-true parts.before 0 pen.1 in
    let none_after : parts.after ≡ 0 = eqb-true parts.after 0 third.1 in
    let no_closing : closing ≡ [] = nil_from_length closing (eqb-true (length closing) 0 last.1) in
    sym (
    ap₂ (λ u v. u ++ v)
    (ap₂ (λ u v. u ++ v) (ap₂ (λ u n. u ++ blanks n) (ap₂ (λ u v. u ++ v) no_style no_link) none_before) (ap (λ n. kept text n (length (plain text))) (whole.shown none_before) ∙ kept-all text (length (plain text)) (omega arith)))
    (ap₂ (λ n u. blanks n ++ u) none_after no_closing)
    ∙ append-nil text)

-- Parts of which no cluster is divided.

module _ (parts : Parts) (none_before : parts.before ≡ 0) (none_after : parts.after ≡ 0) where
  abbrev pub after_text : List ℕ
  after_text = link_end parts.closed.link.now ++ close (rendition_of parts.closed.style)

  abbrev pub before_text : List ℕ
  before_text = start (rendition_of parts.opened.style) ++ parts.opened.link.now

  pub whole-bytes : AreWhole parts → joined_parts parts ≡ before_text ++ parts.text.now ++ after_text
  whole-bytes whole =
      let text = parts.text.now in
      ap₂ (λ u v. u ++ v)
      (ap₂ (λ u v. u ++ v) (ap (λ n. before_text ++ blanks n) none_before ∙ append-nil before_text) (ap (λ n. kept text n (length (plain text))) (whole.shown none_before) ∙ kept-all text (length (plain text)) (omega arith)))
      (ap (λ n. blanks n ++ after_text) none_after)

pub sliced-nothing : (t : List ℕ) (a b : ℕ) → has_no_column (plain t) a b ≡ true → [] ≡ sliced_up_to t a b
unfolding sliced_up_to
sliced-nothing t a b none = sym (ap (λ c. if c then [] else slice_opening t a b ++ slice_middle t a b ++ slice_closing t a b) none)

-- an edge past the end is at the end
sliced-past : (t : List ℕ) (a b : ℕ) → columns (plain t) ≤ b → sliced_up_to t a b ≡ sliced_up_to t a (columns (plain t))
unfolding sliced_up_to
sliced-past t a b past =
    let x = plain t in
    let n = columns x in
    let begun_columns = columns_of (begun a (clusters x)) in
    let within = begun-within a (clusters x) in
    let here : nat_le n b ≡ true = le-leb n b past in
    let there : nat_le n n ≡ true = le-leb n n (omega arith) in
    let nothing : has_no_column x a b ≡ has_no_column x a n = grind (arith, nat_tests) in
    let blanks_before_are : blanks_before x a b ≡ blanks_before x a n = grind (arith, within) in
    let place : bytes_up_to x b ≡ bytes_up_to x n
    = ap (λ c. if c then length x else column_place x b) here ∙ sym (ap (λ c. if c then length x else column_place x n) there) in
    let blanks_after_are : blanks_after x a b ≡ blanks_after x a n
    = ap (λ c. if c || nat_lt (column_place x b) (bytes_from x a) then 0 else b - columns_of (ended b (clusters x))) here
    ∙ sym (ap (λ c. if c || nat_lt (column_place x n) (bytes_from x a) then 0 else n - columns_of (ended n (clusters x))) there) in
    let opening : slice_opening t a b ≡ slice_opening t a n = ap (λ m. pen_open t (opened_at x a) ++ blanks m) blanks_before_are in
    let middle : slice_middle t a b ≡ slice_middle t a n = ap (λ e. interleaved x (bytes_from x a) e (marks_past (opened_at x a) (marks_up_to e (marks t)))) place in
    let closing : slice_closing t a b ≡ slice_closing t a n = ap₂ (λ m e. blanks m ++ pen_close t e) blanks_after_are place in
    ap₂ (λ c u. if c then [] else u) nothing (ap₂ (λ u v. u ++ v) (ap₂ (λ u v. u ++ v) opening middle) closing)

blanks-past : (x : List ℕ) (a b : ℕ) → columns x ≤ b → slice_blanks x a b ≡ slice_blanks x a (columns x)
blanks-past x a b past =
    let n = columns x in
    let within = begun-within a (clusters x) in
    let here : nat_le n b ≡ true = le-leb n b past in
    let there : nat_le n n ≡ true = le-leb n n (omega arith) in
    let blanks_before_are : blanks_before x a b ≡ blanks_before x a n = grind (arith, within) in
    ap₂ (λ i j. i + j) blanks_before_are (
    ap (λ c. if c || nat_lt (column_place x b) (bytes_from x a) then 0 else b - columns_of (ended b (clusters x))) here
    ∙ sym (ap (λ c. if c || nat_lt (column_place x n) (bytes_from x a) then 0 else n - columns_of (ended n (clusters x))) there))

pub blanks-top : (x : List ℕ) (a top : ℕ) (end : Option ℕ) → columns x ≤ top → slice_blanks x a (unwrap_or end top) ≡ slice_blanks x a (unwrap_or end (columns x))
blanks-top x a top (Some b) past = refl
blanks-top x a top None past = blanks-past x a top past

pub sliced-top : (t : List ℕ) (a top : ℕ) (end : Option ℕ) → columns (plain t) ≤ top → sliced_up_to t a (unwrap_or end top) ≡ sliced t a end
sliced-top t a top (Some b) past = refl
sliced-top t a top None past = sliced-past t a top past

pub length-if_ok : {A E : Type 0} (w : List ℕ) {n : ℕ} (r : Result (CowStr A) E) → IfOk r (λ s. cow_str_bytes s ≡ w) → length w ≤ n → IfOk r (λ s. length (cow_str_bytes s) ≤ n)
length-if_ok w (Ok s) same within = omega (arith, within, ap length same)
length-if_ok w (Err e) same within = tt
