-- A step of a walk over the characters of a plain text.
use Rattle.std.proofs.Common.{◌≡◌, ◌≢◌, ℕ, ◌+◌, ◌-◌, ◌≤◌, true, List, [], ◌∷◌, ◌++◌, length, take, drop, reverse, slice_range, encode_utf8, Option, Some, None, MatchOption, refl, sym, ◌∙◌, ap, ap₂, subst, arith, length-append, take-add}
use Rattle.std.specs.List.{list_all}
use Rattle.std.specs.Str.{chars, IsUtf8, IsCharBoundary}
use Rattle.std.proofs.lemmas.Bool.{and_parts}
use Rattle.std.proofs.lemmas.List.{drop-drop, drop_at, take_at, length-drop, take-append-le}
use Rattle.std.proofs.lemmas.List.Folds.{drop_split, list_all-append}
use Rattle.std.proofs.lemmas.Str.{chars-nil, chars-append, chars_past_char, IsUtf8-take, IsUtf8-drop, IsUtf8-between, IsUtf8-append, IsCharBoundary-from_rest, IsCharBoundary-from_take, IsCharBoundary-end}
use Rattle.unicode_segmentation.specs.Steps.{IsCharAt}
use Rattle.unicode_segmentation.proofs.TextLemmas.{slice_range_split, IsCharAt-first, encode_utf8_nonempty, reverse-chars_past_char, chars-encode_utf8}
use Rattle.ansi_items.specs.Bytes.{is_plain_byte}
use Rattle.ansi_items.specs.Plain.{plain}
use Rattle.ansi_items.proofs.Utf8Lemmas.{IsUtf8-plain}
use Rattle.ansi_search.specs.Offsets.{offset_of}
use Rattle.ansi_search.proofs.SliceLemmas.{length-slice_range}
use Rattle.ansi_search.proofs.OffsetLemmas.{plain-after}
use Rattle.ansi_clusters.specs.declared.walks.Walk.{Walk}
use Rattle.ansi_clusters.specs.BreakStates.{break_state_of}
use Rattle.ansi_clusters.specs.declared.views.View.{View}
use Rattle.ansi_clusters.specs.Walks.{before, after, cluster, seen_before, IsRun, IsWalkIn, IsNext}
use Rattle.ansi_clusters.proofs.PlaceLemmas.{offset_of-add, offset_of-run, offset_of-plain, plain-before}
use Rattle.ansi_items.proofs.JoinLemmas.{plain-run}

pub before-start : (t : List ℕ) → before t 0 ≡ []
before-start t = ap reverse chars-nil

-- a range of what follows an offset
slice_range-drop : (t : List ℕ) (n a b : ℕ) → slice_range (drop n t) a b ≡ slice_range t (n + a) (n + b)
slice_range-drop t n a b = let same : b - a ≡ n + b - (n + a) = omega arith in ap₂ take same (drop-drop a n t ∙ ap (λ i. drop i t) (omega arith))

pub run-after : (t : List ℕ) (n a b : ℕ) → n ≤ length t → IsRun (drop n t) a b → IsRun t (n + a) (n + b)
run-after t n a b within run = record {
  ordered = omega (arith, run.ordered);
  start_boundary = IsCharBoundary-from_rest t n a within run.start_boundary;
  end_boundary = IsCharBoundary-from_rest t n b within run.end_boundary;
  bytes = ap (list_all is_plain_byte) (sym (slice_range-drop t n a b)) ∙ run.bytes;
}

-- at the end of a text there is none
pub IsRun-at_end : (t : List ℕ) → IsRun t (length t) (length t)
IsRun-at_end t =
    let none : length t - length t ≡ 0 = omega arith in
    record { ordered = omega arith; start_boundary = IsCharBoundary-end t; end_boundary = IsCharBoundary-end t; bytes = ap (λ n. list_all is_plain_byte (take n (drop (length t) t))) none }

module _ (t : List ℕ) (utf8 : IsUtf8 t) (w : Walk) {view : View} (walk : IsWalkIn view t w) where
  -- the text before the walk and the text after it

  pub plain_from : drop w.position (plain t) ≡ plain (drop w.offset t)
  plain_from = sym (ap (λ i. plain (drop i t)) walk.offset ∙ plain-after t w.position)

  pub plain_to : take w.position (plain t) ≡ plain (take w.offset t)
  plain_to = sym (ap (λ i. plain (take i t)) walk.offset ∙ plain-before t w.position)

  pub utf8_from : IsUtf8 (drop w.position (plain t))
  utf8_from = subst IsUtf8 (sym plain_from) (IsUtf8-plain (drop w.offset t) (IsUtf8-drop t w.offset utf8 walk.run.start_boundary))

  pub utf8_to : IsUtf8 (take w.position (plain t))
  utf8_to = subst IsUtf8 (sym plain_to) (IsUtf8-plain (take w.offset t) (IsUtf8-take t w.offset utf8 walk.run.start_boundary))

  pub walk_boundary : IsCharBoundary (plain t) w.position
  walk_boundary = IsCharBoundary-from_take (plain t) w.position (IsUtf8-plain t utf8) walk.within utf8_to

  -- no character is left if the run is empty
  pub after-end : w.offset ≡ w.run_end → after t w.position ≡ []
  after-end none = ap chars (plain_from ∙ ap (λ i. plain (drop i t)) (walk.end none) ∙ ap plain (drop_end t)) ∙ chars-nil
    where
      drop_end : (x : List ℕ) → drop (length x) x ≡ []
      drop_end [] = refl
      drop_end (b ∷ x) = drop_end x

  -- the first character of the run, or `None` if no character is left
  pub next-of : (r : Option ℕ) (x more : List ℕ) (Same : Type 0) → x ≡ slice_range t w.offset w.run_end → MatchOption r ((length x ≡ 0) × Same) (λ c. x ≡ encode_utf8 c ++ more)
      → MatchOption r (after t w.position ≡ []) (IsNext t w)
  next-of (Some c) x more Same is first = record { rest = more; bytes = sym is ∙ first }
  next-of None x more Same is none =
      after-end (omega (arith, none.0, ap length is, length-slice_range t w.offset w.run_end walk.run.ordered walk.run.end_boundary.0, walk.run.ordered))

  module _ (c : ℕ) (next : IsNext t w c) where
    abbrev pub k : ℕ
    k = length (encode_utf8 c)

    abbrev pub past : ℕ
    past = w.offset + k

    abbrev pub rest : List ℕ
    rest = next.rest

    size : w.run_end ≡ past + length rest
    size = omega (arith, walk.run.ordered, walk.run.end_boundary.0, ap length next.bytes, length-append (encode_utf8 c) rest, length-slice_range t w.offset w.run_end walk.run.ordered walk.run.end_boundary.0)

    pub char_here : IsCharAt t w.offset c past
    char_here =
        let end : w.run_end - length rest ≡ past = omega (arith, size) in
        subst (IsCharAt t w.offset c) end (IsCharAt-first t utf8 w.offset w.run_end c rest walk.run.ordered walk.run.start_boundary walk.run.end_boundary next.bytes)

    both_plain : (list_all is_plain_byte (encode_utf8 c) ≡ true) × (list_all is_plain_byte rest ≡ true)
    both_plain = and_parts _ _ (sym (list_all-append is_plain_byte (encode_utf8 c) rest) ∙ ap (list_all is_plain_byte) (sym next.bytes) ∙ walk.run.bytes)

    text_from : drop w.offset t ≡ encode_utf8 c ++ drop past t
    text_from = drop_split t w.offset past (omega arith) ∙ ap (λ u. u ++ drop past t) char_here.bytes

    plain_split : drop w.position (plain t) ≡ encode_utf8 c ++ plain (drop past t)
    plain_split = plain_from ∙ ap plain text_from ∙ plain-run (encode_utf8 c) (drop past t) both_plain.0

    pub position_within : w.position + k ≤ length (plain t)
    position_within = omega (arith, walk.within, ap length plain_split, length-append (encode_utf8 c) (plain (drop past t)), length-drop w.position (plain t))

    plain_past : drop (w.position + k) (plain t) ≡ plain (drop past t)
    plain_past = sym (drop-drop k w.position (plain t) ∙ ap (λ i. drop i (plain t)) (omega arith)) ∙ ap (drop k) plain_split ∙ drop_at (encode_utf8 c) (plain (drop past t)) k refl

    pub after-past : after t w.position ≡ c ∷ after t (w.position + k)
    after-past = chars_past_char (drop w.position (plain t)) (drop (w.position + k) (plain t)) c utf8_from (plain_split ∙ ap (λ u. encode_utf8 c ++ u) (sym plain_past))

    front_past : take (w.position + k) (plain t) ≡ take w.position (plain t) ++ encode_utf8 c
    front_past = take-add w.position k (plain t) ∙ ap (λ u. take w.position (plain t) ++ u) (ap (take k) plain_split ∙ take_at (encode_utf8 c) (plain (drop past t)) k refl)

    utf8_char : IsUtf8 (encode_utf8 c)
    utf8_char = subst IsUtf8 char_here.bytes (IsUtf8-between t w.offset past utf8 (omega arith) walk.run.start_boundary char_here.end_boundary)

    pub before-past : before t (w.position + k) ≡ c ∷ before t w.position
    before-past = reverse-chars_past_char (take (w.position + k) (plain t)) (take w.position (plain t)) c utf8_to utf8_char front_past

    offset_past : offset_of t (w.position + k) ≡ past + offset_of (drop past t) 0
    offset_past =
        let here : offset_of (drop (offset_of t w.position) t) k ≡ k + offset_of (drop past t) 0
        = ap (λ i. offset_of (drop i t) k) (sym walk.offset) ∙ ap (λ u. offset_of u k) text_from
        ∙ offset_of-run (encode_utf8 c) (drop past t) (λ e. (let some = encode_utf8_nonempty c in absurd (omega (arith, some, ap length e)))) both_plain.0 in
        omega (arith, offset_of-add t w.position k, walk.offset, here)

    pub rest_at : slice_range t past w.run_end ≡ rest
    rest_at =
        let split = slice_range_split t w.offset past w.run_end (omega arith) (omega (arith, size)) ∙ ap (λ u. u ++ slice_range t past w.run_end) char_here.bytes in
        sym (drop_at (encode_utf8 c) (slice_range t past w.run_end) k refl) ∙ ap (drop k) (sym split ∙ next.bytes) ∙ drop_at (encode_utf8 c) rest k refl

    run_past : IsRun t past w.run_end
    run_past = record {
      ordered = omega (arith, size);
      start_boundary = char_here.end_boundary;
      end_boundary = walk.run.end_boundary;
      bytes = ap (list_all is_plain_byte) rest_at ∙ both_plain.1;
    }

    none_before : past ≢ w.run_end → offset_of (drop past t) 0 ≡ 0
    none_before more = by_rest rest refl
      where
        by_rest : (r : List ℕ) → rest ≡ r → offset_of (drop past t) 0 ≡ 0
        by_rest [] e = absurd (more (omega (arith, size, ap length e)))
        by_rest (b ∷ r) e =
            ap (λ u. offset_of u 0) (drop_split t past w.run_end (omega (arith, size)) ∙ ap (λ u. u ++ drop w.run_end t) (rest_at ∙ e))
            ∙ offset_of-plain b (r ++ drop w.run_end t) (and_parts (is_plain_byte b) (list_all is_plain_byte r) (ap (list_all is_plain_byte) (sym e) ∙ both_plain.1)).0

    pub boundary_past : IsCharBoundary (plain t) (w.position + k)
    boundary_past = IsCharBoundary-from_take (plain t) (w.position + k) (IsUtf8-plain t utf8) position_within (subst IsUtf8 (sym front_past) (IsUtf8-append (take w.position (plain t)) (encode_utf8 c) utf8_to utf8_char))

    -- the run goes on
    pub walk-on : (seen : View) (new : Walk) → new.position ≡ w.position + k → new.offset ≡ past → new.run_end ≡ w.run_end → past ≢ w.run_end → new.break_state ≡ break_state_of (seen_before seen t new.position) → IsWalkIn seen t new
    walk-on seen new position offset run_end more break_state = record {
      offset = omega (arith, offset, offset_past, none_before more, ap (offset_of t) position);
      run = rw (offset, run_end) run_past;
      end = λ e. absurd (more (sym offset ∙ e ∙ run_end));
      break_state = break_state;
      within = rw position position_within;
    }

    -- the run ends, and the next one begins
    pub walk-over : (seen : View) (new : Walk) (start end : ℕ) → new.position ≡ w.position + k → new.offset ≡ past + start → new.run_end ≡ past + end → start ≡ offset_of (drop past t) 0 → IsRun (drop past t) start end
        → (start ≡ end → start ≡ length (drop past t)) → new.break_state ≡ break_state_of (seen_before seen t new.position) → IsWalkIn seen t new
    walk-over seen new start end position offset run_end start_is run none break_state =
        let inside : past ≤ length t = omega (arith, size, walk.run.end_boundary.0) in
        record {
          offset = omega (arith, offset, start_is, offset_past, ap (offset_of t) position);
          run = rw (offset, run_end) (run-after t past start end inside run);
          end = λ e. (let last : start ≡ end = omega (arith, offset, run_end, e) in omega (arith, offset, none last, length-drop past t, inside));
          break_state = break_state;
          within = rw position position_within;
        }

    -- the character joins those from an earlier position on
    pub cluster-push : (i : ℕ) → i ≤ w.position → IsCharBoundary (plain t) i → cluster t i (w.position + k) ≡ cluster t i w.position ++ c ∷ []
    cluster-push i ordered start =
        let x = plain t in
        let last : slice_range x w.position (w.position + k) ≡ encode_utf8 c
        = ap (λ n. take n (drop w.position x)) (omega arith) ∙ ap (take k) plain_split ∙ take_at (encode_utf8 c) (plain (drop past t)) k refl in
        ap chars (slice_range_split x i w.position (w.position + k) ordered (omega arith) ∙ ap (λ u. slice_range x i w.position ++ u) last)
        ∙ chars-append (slice_range x i w.position) (encode_utf8 c) (IsUtf8-between x i w.position (IsUtf8-plain t utf8) ordered start walk_boundary)
        ∙ ap (λ u. cluster t i w.position ++ u) (chars-encode_utf8 c utf8_char)

-- Between two walks.

module _ (t : List ℕ) (utf8 : IsUtf8 t) (w v : Walk) {view : View} (from : IsWalkIn view t w) (to : IsWalkIn view t v) (ordered : w.position ≤ v.position) where
  abbrev pub between : ℕ
  between = v.position - w.position

  offsets : v.offset ≡ w.offset + offset_of (drop w.offset t) between
  offsets =
      let all : v.position ≡ w.position + between = omega arith in
      omega (arith, to.offset, from.offset, ap (offset_of t) all, offset_of-add t w.position between, ap (λ i. offset_of (drop i t) between) from.offset)

  pub offsets_ordered : w.offset ≤ v.offset
  offsets_ordered = omega (arith, offsets)

  -- the plain text between them
  pub plain-between : plain (slice_range t w.offset v.offset) ≡ slice_range (plain t) w.position v.position
  plain-between =
      let count : v.offset - w.offset ≡ offset_of (drop w.offset t) between = omega (arith, offsets) in
      ap (λ n. plain (take n (drop w.offset t))) count ∙ plain-before (drop w.offset t) between ∙ ap (take between) (sym (plain_from t utf8 w from))

  -- the same, if they are in one run
  pub run-between : between ≤ w.run_end - w.offset → slice_range t w.offset (w.offset + between) ≡ slice_range (plain t) w.position v.position
  run-between within =
      let n = w.run_end - w.offset in
      let run = slice_range t w.offset w.run_end in
      let count : w.offset + between - w.offset ≡ between = omega arith in
      let size : length run ≡ n = length-slice_range t w.offset w.run_end from.run.ordered from.run.end_boundary.0 in
      let all : drop w.offset t ≡ run ++ drop w.run_end t = drop_split t w.offset w.run_end from.run.ordered in
      ap (λ m. take m (drop w.offset t)) count ∙ ap (take between) all ∙ take-append-le between run (drop w.run_end t) (omega (arith, size))
      ∙ sym (ap (take between) (plain_from t utf8 w from ∙ ap plain all ∙ plain-run run (drop w.run_end t) from.run.bytes) ∙ take-append-le between run (plain (drop w.run_end t)) (omega (arith, size)))

  pub boundary-between : between ≤ w.run_end - w.offset → IsCharBoundary t (w.offset + between)
  boundary-between within =
      let rest = drop w.offset t in
      let count : w.offset + between - w.offset ≡ between = omega arith in
      let part : IsUtf8 (take between rest)
      = subst IsUtf8 (sym (run-between within) ∙ ap (λ m. take m rest) count) (IsUtf8-between (plain t) w.position v.position (IsUtf8-plain t utf8) ordered (walk_boundary t utf8 w from) (walk_boundary t utf8 v to)) in
      IsCharBoundary-from_rest t w.offset between from.run.start_boundary.0
      (IsCharBoundary-from_take rest between (IsUtf8-drop t w.offset utf8 from.run.start_boundary) (omega (arith, within, from.run.end_boundary.0, length-drop w.offset t)) part)
