-- A walk over printable ASCII: each byte that another one follows is a cluster of one column.
use Rattle.std.proofs.Common.{◌≡◌, ℕ, zero, suc, ◌+◌, ◌-◌, ◌<◌, ◌≤◌, nat_lt, ap₂, inl, inr, true, ◌==◌, ◌||◌, List, [], ◌∷◌, ◌++◌, length, map, take, drop, slice_index, slice_range, encode_utf8, encode_utf8_all, refl, sym, ◌∙◌, ap, subst, arith, append-nil, append_assoc, ◌&&◌, Bool, false, if◌then◌else◌}
use Rattle.std.specs.List.{list_all, prefix_len}
use Rattle.std.specs.Str.{chars, IsUtf8, IsCharBoundary}
use Rattle.std.proofs.lemmas.Bool.{and_parts, cases_lt}
use Rattle.std.proofs.lemmas.Bool.Decides.{nat_tests}
use Rattle.std.proofs.Math.Seq.{drop-cons, take-suc}
use Rattle.std.proofs.lemmas.List.{drop-drop, length-drop, length-take-le, take-take, get_or-take, get_or-drop}
use Rattle.std.proofs.lemmas.List.Sums.{sum_by-cons, sum_by-append, prefix_len-le-length}
use Rattle.std.proofs.lemmas.Str.{encode_ascii, chars-IsAscii}
use Rattle.std.proofs.lemmas.Str.Ascii.{IsAscii-from_all}
use Rattle.ansi_items.specs.Plain.{plain}
use Rattle.unicode_segmentation.specs.Grapheme.{is_grapheme_break}
use Rattle.ansi_items.proofs.SequenceLemmas.{all-run}
use Rattle.ansi_search.specs.Offsets.{offset_of}
use Rattle.ansi_search.proofs.SliceLemmas.{length-slice_range}
use Rattle.ansi_clusters.specs.declared.walks.Walk.{Walk}
use Rattle.ansi_safe.specs.Cells.{cell_char}
use Rattle.ansi_safe.specs.Safe.{is_printing}
use Rattle.ansi_clusters.specs.BreakStates.{break_state_of, IsSingle}
use Rattle.ansi_clusters.specs.Columns.{cluster_width, columns_of, bytes_of}
use Rattle.ansi_clusters.specs.declared.views.View.{View}
use Rattle.ansi_clusters.specs.declared.views.View.TheVariants.{Given, Shown, Lined}
use Rattle.ansi_clusters.specs.Views.{seen_char, seen, seen_len}
use Rattle.ansi_clusters.specs.Walks.{IsRun, IsPrintableFront, IsPastAscii, after, cluster, clusters_after, seen_before, seen_after, seen_cluster, seen_clusters, is_seen_ascii, IsWalkIn, IsNext, IsPrintable, AreClustersIn, IsFittingTo, IsPastClusters, IsPastLast, IsCountedTo, EndsAscii, BreaksAfterAscii, has_width}
use Rattle.ansi_clusters.proofs.AsciiLemmas.{is_printable, printable-below_7F, All-printable_is_ascii, break_state-printable, breaks-before_ascii, width-single, IsSingle-printable}
use Rattle.ansi_clusters.proofs.SingleLemmas.{breaks-single}
use Rattle.ansi_clusters.proofs.SingleWalkLemmas.{seen_after-printing}
use Rattle.ansi_clusters.proofs.ClusterLemmas.{cluster-begins, cluster-ends}
use Rattle.ansi_clusters.proofs.ClusterLawLemmas.{breaks-last}
use Rattle.ansi_clusters.proofs.ColumnLemmas.{bytes_of-append}
use Rattle.ansi_clusters.proofs.WalkLemmas.{walk_boundary, after-end, after-past, boundary_past, walk-on, walk-over, run-between}
use Rattle.ansi_clusters.proofs.ViewLemmas.{seen-nil, seen-one, seen-append, seen-printable, seen-all_printable, seen-ascii, before-one, after-one, part-size, seen_len-split}
use Rattle.ansi_clusters.proofs.ClusterWalkLemmas.{seen_cluster-next}

pub encode-printable : (b : ℕ) → is_printable b ≡ true → encode_utf8 b ≡ b ∷ []
encode-printable b printable = encode_ascii b (omega (arith, printable-below_7F b printable))

pub printable-seen : (b : ℕ) → is_printable b ≡ true → is_seen_ascii b ≡ true
printable-seen b printable = ap (λ p. p || (b == 9 || b == 10)) printable

seen_ascii-below : (b : ℕ) → is_seen_ascii b ≡ true → b < 128
seen_ascii-below b is = grind (arith, nat_tests)

pub slice_range-take : (t : List ℕ) (a n : ℕ) → slice_range t a (a + n) ≡ take n (drop a t)
slice_range-take t a n = (let same : a + n - a ≡ n = omega arith in ap (λ m. take m (drop a t)) same)

seen-any : (view : View) (c : ℕ) → seen_char Shown c ≡ c ∷ [] → seen_char view c ≡ c ∷ []
seen-any Given c is = refl
seen-any Shown c is = is
seen-any Lined c is = by (c == 10)
  where
    by : (w : Bool) → (if w then c ∷ [] else cell_char c) ≡ c ∷ []
    by true = refl
    by false = is

-- the walk after n bytes of printable ASCII
abbrev pub advanced : Walk → ℕ → Walk
advanced w zero = w
advanced w (suc n) = record { position = w.position + suc n; offset = w.offset + suc n; run_end = w.run_end; break_state = break_state_of [] }

abbrev one_on : Walk → Walk
one_on w = record { position = w.position + 1; offset = w.offset + 1; run_end = w.run_end; break_state = break_state_of [] }

advanced-one_on : (w : Walk) (n : ℕ) → advanced (one_on w) n ≡ advanced w (suc n)
advanced-one_on w zero = refl
advanced-one_on w (suc n) =
    let position : w.position + 1 + suc n ≡ w.position + suc (suc n) = omega arith in
    let offset : w.offset + 1 + suc n ≡ w.offset + suc (suc n) = omega arith in
    rw (position, offset) refl

-- a walk at the first run after the offset m, in the state after printable ASCII
pub record IsAtNextRun (t : List ℕ) (m : ℕ) (walk : Walk) : Type 0 where
  pub start : ℕ
  pub end : ℕ
  pub offset : walk.offset ≡ m + start
  pub run_end : walk.run_end ≡ m + end
  pub start_is : start ≡ offset_of (drop m t) 0
  pub run : IsRun (drop m t) start end
  pub none : start ≡ end → start ≡ length (drop m t)
  pub break_state : walk.break_state ≡ break_state_of []

module _ (view : View) (t : List ℕ) (utf8 : IsUtf8 t) where
  -- the byte at a walk is its next character
  pub next-ascii : (w : Walk) (b : ℕ) (u : List ℕ) → drop w.offset t ≡ b ∷ u → b < 128 → w.offset < w.run_end → IsNext t w b
  next-ascii w b u text ascii inside =
      let more : w.run_end - w.offset ≡ suc (w.run_end - w.offset - 1) = omega (arith, inside) in
      record {
        rest = take (w.run_end - w.offset - 1) u;
        bytes = ap (take (w.run_end - w.offset)) text ∙ ap (λ n. take n (b ∷ u)) more ∙ ap (λ x. x ++ take (w.run_end - w.offset - 1) u) (sym (encode_ascii b ascii));
      }

  -- a character of ASCII is seen next
  next-seen : (w : Walk) → IsWalkIn view t w → (d e : ℕ) → IsNext t w d → seen_char view d ≡ e ∷ [] → (rest : List ℕ) × (seen_after view t w.position ≡ e ∷ rest)
  next-seen w walk d e next seen_is =
      let past = after-past t utf8 w walk d next in (
        seen view (after t (w.position + length (encode_utf8 d))),
        ap (seen view) past ∙ seen-append view (d ∷ []) (after t (w.position + length (encode_utf8 d))) ∙ ap (λ x. x ++ seen view (after t (w.position + length (encode_utf8 d)))) (seen-one view d ∙ seen_is),
      )

  -- a cluster that ends in printable ASCII ends before ASCII that is seen
  pub ends-ascii : (v : Walk) → IsWalkIn view t v → (d : ℕ) → IsNext t v d → is_seen_ascii d ≡ true → (before : List ℕ) (b : ℕ) → is_printable b ≡ true → is_grapheme_break true (b ∷ before) (seen_after view t v.position) ≡ true
  ends-ascii v is d next second before b first =
      let ascii = seen-ascii view d second in
      let then_is = next-seen v is d ascii.0 next ascii.1 in
      ap (is_grapheme_break true (b ∷ before)) then_is.1 ∙ breaks-before_ascii before b ascii.0 then_is.0 first ascii.2

  -- so it does before a character that prints and that no rule on clusters joins to it
  pub ends-single : (v : Walk) → IsWalkIn view t v → (d : ℕ) → IsNext t v d → IsSingle d → is_printing d ≡ true → (before : List ℕ) (b : ℕ) → is_printable b ≡ true → is_grapheme_break true (b ∷ before) (seen_after view t v.position) ≡ true
  ends-single v is d next single printing before b first =
      let then_is = seen_after-printing view t utf8 v is d next printing in
      ap (is_grapheme_break true (b ∷ before)) then_is.1 ∙ breaks-single before b d then_is.0 (IsSingle-printable b first) single

  -- so it does before any other that breaks after it
  pub ends-breaking : (v : Walk) → IsWalkIn view t v → (d : ℕ) → IsNext t v d → BreaksAfterAscii d → (before : List ℕ) (b : ℕ) → is_printable b ≡ true → is_grapheme_break true (b ∷ before) (seen_after view t v.position) ≡ true
  ends-breaking v is d next breaking before b first =
      let then_is = next-seen v is d d next (seen-any view d breaking.seen) in
      ap (is_grapheme_break true (b ∷ before)) then_is.1 ∙ breaking.breaks (b ∷ before) then_is.0 (λ none. cc) (break_state-printable b before first)

  -- and if nothing follows
  pub ends-none : (v : Walk) → after t v.position ≡ [] → (before : List ℕ) (b : ℕ) → is_grapheme_break true (b ∷ before) (seen_after view t v.position) ≡ true
  ends-none v none before b = ap (is_grapheme_break true (b ∷ before)) (ap (seen view) none ∙ seen-nil view) ∙ breaks-last b before

  -- the same by the byte at the walk
  pub ends-byte : (v : Walk) → IsWalkIn view t v → v.offset < length t → is_seen_ascii (slice_index t v.offset) ≡ true → (before : List ℕ) (b : ℕ) → is_printable b ≡ true → is_grapheme_break true (b ∷ before) (seen_after view t v.position) ≡ true
  ends-byte v is some second before b first =
      let d = slice_index t v.offset in
      let inside : v.offset < v.run_end = elim (cases_lt v.offset v.run_end) [
        | inl less ↦ less
        | inr past ↦ absurd (omega (arith, some, is.end (omega (arith, past, is.run.ordered))))
      ] in
      ends-ascii v is d (next-ascii v d (drop (suc v.offset) t) (drop-cons t v.offset 0 some) (seen_ascii-below d second) inside) second before b first

  pub ends-end : (v : Walk) → IsWalkIn view t v → length t ≤ v.offset → (before : List ℕ) (b : ℕ) → is_grapheme_break true (b ∷ before) (seen_after view t v.position) ≡ true
  ends-end v is past before b = ends-none v (after-end t utf8 v is (omega (arith, past, is.run.ordered, is.run.end_boundary.0))) before b

  -- one byte
  module _ (w : Walk) (walk : IsWalkIn view t w) (b : ℕ) (u : List ℕ) (text : drop w.offset t ≡ b ∷ u) (first : is_printable b ≡ true) (inside : w.offset < w.run_end) where
    next : IsNext t w b
    next = next-ascii w b u text (omega (arith, printable-below_7F b first)) inside

    size : length (encode_utf8 b) ≡ 1
    size = ap length (encode-printable b first)

    one : seen_cluster view t w.position (w.position + 1) ≡ b ∷ []
    one = ap (λ n. seen_cluster view t w.position (w.position + n)) (sym size) ∙ seen_cluster-next view utf8 walk next ∙ seen-printable view b first

    end : IsCharBoundary (plain t) (w.position + 1)
    end = subst (λ n. IsCharBoundary (plain t) (w.position + n)) size (boundary_past t utf8 w walk b next)

    before_is : seen_before view t (w.position + 1) ≡ b ∷ seen_before view t w.position
    before_is = before-one view t utf8 w.position (w.position + 1) (omega arith) (walk_boundary t utf8 w walk) end b one

    after_is : seen_after view t w.position ≡ b ∷ seen_after view t (w.position + 1)
    after_is = after-one view t utf8 w.position (w.position + 1) (omega arith) (walk_boundary t utf8 w walk) end b one

    cluster-one : is_grapheme_break true (b ∷ seen_before view t w.position) (seen_after view t (w.position + 1)) ≡ true → seen_clusters view t w.position ≡ (b ∷ []) ∷ seen_clusters view t (w.position + 1)
    cluster-one breaks =
        let m = w.position + 1 in
        ap (clusters_after (seen_before view t w.position)) after_is ∙ cluster-begins (seen_before view t w.position) b (seen_after view t m)
        ∙ cluster-ends (b ∷ []) (b ∷ seen_before view t w.position) (seen_after view t m) breaks
        ∙ ap (λ x. (b ∷ []) ∷ clusters_after x (seen_after view t m)) (sym before_is)

    -- it is the last of its run
    last-walk : (v : Walk) → w.offset + 1 ≡ w.run_end → v.position ≡ w.position + 1 → IsAtNextRun t w.run_end v → IsWalkIn view t v
    last-walk v last place next_run =
        let past : w.run_end ≡ w.offset + length (encode_utf8 b) = omega (arith, last, size) in
        let at = subst (λ m. IsAtNextRun t m v) past next_run in
        walk-over t utf8 w walk b next view v at.start at.end (place ∙ ap (λ n. w.position + n) (sym size)) at.offset at.run_end at.start_is at.run at.none
        (at.break_state ∙ break_state-printable b (seen_before view t w.position) first ∙ ap break_state_of (sym before_is) ∙ ap (λ n. break_state_of (seen_before view t n)) (sym place))

    last-cluster : (v : Walk) → IsWalkIn view t v → v.position ≡ w.position + 1 → EndsAscii t v → seen_clusters view t w.position ≡ (b ∷ []) ∷ seen_clusters view t (w.position + 1)
    last-cluster v is place ends =
        cluster-one (ap (λ n. is_grapheme_break true (b ∷ seen_before view t w.position) (seen_after view t n)) (sym place) ∙ ends view is (seen_before view t w.position) b first)

  -- one byte, and another one after it
  module _ (w : Walk) (walk : IsWalkIn view t w) (b d : ℕ) (u : List ℕ) (text : drop w.offset t ≡ b ∷ d ∷ u) (first : is_printable b ≡ true) (second : is_seen_ascii d ≡ true) (inside : w.offset + 1 < w.run_end) where
    room : w.offset < w.run_end
    room = omega (arith, inside)

    rest_text : drop (w.offset + 1) t ≡ d ∷ u
    rest_text = sym (drop-drop 1 w.offset t) ∙ ap (drop 1) text

    walk-one_on : IsWalkIn view t (one_on w)
    walk-one_on =
        let one_byte = size w walk b (d ∷ u) text first room in
        walk-on t utf8 w walk b (next w walk b (d ∷ u) text first room) view (one_on w) (ap (λ n. w.position + n) (sym one_byte)) (ap (λ n. w.offset + n) (sym one_byte)) refl
        (λ e. (let here : w.offset + 1 ≡ w.run_end = ap (λ n. w.offset + n) (sym one_byte) ∙ e in absurd (omega (arith, here, inside))))
        (break_state-printable b (seen_before view t w.position) first ∙ ap break_state_of (sym (before_is w walk b (d ∷ u) text first room)))

    cluster-one_on : seen_clusters view t w.position ≡ (b ∷ []) ∷ seen_clusters view t (w.position + 1)
    cluster-one_on =
        let after_it = next-ascii (one_on w) d u rest_text (seen_ascii-below d second) (omega (arith, inside)) in
        cluster-one w walk b (d ∷ u) text first room (ends-ascii (one_on w) walk-one_on d after_it second (seen_before view t w.position) b first)

  first-ascii : (n d : ℕ) (u : List ℕ) → list_all is_printable (take n (d ∷ u)) ≡ true → is_seen_ascii (slice_index (d ∷ u) n) ≡ true → is_seen_ascii d ≡ true
  first-ascii zero d u all last = last
  first-ascii (suc n) d u all last = printable-seen d (and_parts _ _ all).0

  passed : (n : ℕ) (w : Walk) (x : List ℕ) → IsWalkIn view t w → drop w.offset t ≡ x → w.offset + n < w.run_end → n < length x → list_all is_printable (take n x) ≡ true → is_seen_ascii (slice_index x n) ≡ true
      → IsWalkIn view t (advanced w n) × AreClustersIn view t w.position (take n x)
  passed zero w x walk text inside long all last = (walk, tt)
  passed (suc n) w [] walk text inside long all last = absurd (omega (arith, long))
  passed (suc n) w (b ∷ []) walk text inside long all last = absurd (omega (arith, long))
  passed (suc n) w (b ∷ d ∷ u) walk text inside long all last =
      let parts = and_parts _ _ all in
      let second = first-ascii n d u parts.1 last in
      let room : w.offset + 1 < w.run_end = omega (arith, inside) in
      let rest = passed n (one_on w) (d ∷ u) (walk-one_on w walk b d u text parts.0 second room) (rest_text w walk b d u text parts.0 second room) (omega (arith, inside)) (omega (arith, long)) parts.1 last in
      (subst (IsWalkIn view t) (advanced-one_on w n) rest.0, (cluster-one_on w walk b d u text parts.0 second room, rest.1))

  pub passed-printable : (w : Walk) (n : ℕ) → IsWalkIn view t w → IsPrintable t w n → IsWalkIn view t (advanced w n) × AreClustersIn view t w.position (slice_range t w.offset (w.offset + n))
  passed-printable w n walk printable =
      let end : w.run_end ≤ length t = walk.run.end_boundary.0 in
      let got = passed n w (drop w.offset t) walk refl printable.within (omega (arith, printable.within, end, length-drop w.offset t))
      (ap (list_all is_printable) (sym (slice_range-take t w.offset n)) ∙ printable.bytes) (ap is_seen_ascii (get_or-drop w.offset t n 0) ∙ printable.next) in
      (got.0, subst (AreClustersIn view t w.position) (sym (slice_range-take t w.offset n)) got.1)

  -- a walk that sees otherwise has another break state
  seeing : {any : View} (w : Walk) → IsWalkIn any t w → IsWalkIn view t (record w { break_state = break_state_of (seen_before view t w.position) })
  seeing w walk = record { offset = walk.offset; run = walk.run; end = walk.end; break_state = refl; within = walk.within }

  pub clusters-printable : {any : View} (w : Walk) (n : ℕ) → IsWalkIn any t w → (0 < n → IsPrintable t w n) → AreClustersIn view t w.position (slice_range t w.offset (w.offset + n))
  clusters-printable w zero walk printable = (let none : slice_range t w.offset (w.offset + 0) ≡ [] = slice_range-take t w.offset 0 in subst (AreClustersIn view t w.position) (sym none) tt)
  clusters-printable w (suc n) walk printable =
      (let ahead = printable (omega arith) in (passed-printable (record w { break_state = break_state_of (seen_before view t w.position) }) (suc n) (seeing w walk) (record { within = ahead.within; bytes = ahead.bytes; next = ahead.next })).1)

all-take : (k : ℕ) (x : List ℕ) → list_all is_printable x ≡ true → list_all is_printable (take k x) ≡ true
all-take zero x all = refl
all-take (suc k) [] all = refl
all-take (suc k) (b ∷ x) all = (let parts = and_parts _ _ all in ap (λ c. c && list_all is_printable (take k x)) parts.0 ∙ all-take k x parts.1)

pub all-index : (k : ℕ) (x : List ℕ) → k < length x → list_all is_printable x ≡ true → is_printable (slice_index x k) ≡ true
all-index k [] inside all = absurd (omega (arith, inside))
all-index zero (b ∷ x) inside all = (and_parts _ _ all).0
all-index (suc k) (b ∷ x) inside all = all-index k x (omega (arith, inside)) (and_parts _ _ all).1

-- ---- what passing them counts

abbrev pub singles : List ℕ → List (List ℕ)
singles bytes = map (λ b. b ∷ []) bytes

clusters-passed : (view : View) (t : List ℕ) (n : ℕ) (bytes : List ℕ) → AreClustersIn view t n bytes → seen_clusters view t n ≡ singles bytes ++ seen_clusters view t (n + length bytes)
clusters-passed view t n [] are = (let same : n ≡ n + 0 = omega arith in ap (seen_clusters view t) same)
clusters-passed view t n (b ∷ bytes) are =
    let place : n + 1 + length bytes ≡ n + suc (length bytes) = omega arith in
    are.0 ∙ ap (λ ks. (b ∷ []) ∷ ks) (clusters-passed view t (n + 1) bytes are.1 ∙ ap (λ m. singles bytes ++ seen_clusters view t m) place)

pub bytes-single : (b : ℕ) → is_printable b ≡ true → length (encode_utf8_all (b ∷ [])) ≡ 1
bytes-single b printable = ap length (append-nil (encode_utf8 b) ∙ encode-printable b printable)

pub columns-singles : (bytes : List ℕ) → list_all is_printable bytes ≡ true → columns_of (singles bytes) ≡ length bytes
columns-singles [] all = refl
columns-singles (b ∷ bytes) all = (let parts = and_parts _ _ all in omega (arith, sum_by-cons cluster_width (b ∷ []) (singles bytes), width-single b parts.0, columns-singles bytes parts.1))

pub bytes-singles : (bytes : List ℕ) → list_all is_printable bytes ≡ true → bytes_of (singles bytes) ≡ length bytes
bytes-singles [] all = refl
bytes-singles (b ∷ bytes) all = (let parts = and_parts _ _ all in omega (arith, bytes_of-append ((b ∷ []) ∷ []) (singles bytes), ap length (append-nil (encode_utf8_all (b ∷ []))), bytes-single b parts.0, bytes-singles bytes parts.1))

-- ---- the same for a walk over them

pub IsPrintable-front : {view : View} {t : List ℕ} {w : Walk} (n : ℕ) → IsWalkIn view t w → (0 < n → IsPrintable t w n) → IsPrintableFront t w n
IsPrintable-front {view} {t} {w} zero walk printable = record { within = omega (arith, walk.run.ordered); bytes = ap (list_all is_printable) (slice_range-take t w.offset 0) }
IsPrintable-front {view} {t} {w} (suc n) walk printable = (let ahead = printable (omega arith) in record { within = omega (arith, ahead.within); bytes = ahead.bytes })

pub front-size : {view : View} {t : List ℕ} {w : Walk} {n : ℕ} → IsWalkIn view t w → IsPrintableFront t w n → length (slice_range t w.offset (w.offset + n)) ≡ n
front-size {view} {t} {w} {n} walk front = omega (arith, length-slice_range t w.offset (w.offset + n) (omega arith) (omega (arith, front.within, walk.run.end_boundary.0)))

pub printable-bytes : {view : View} {t : List ℕ} {w : Walk} {len : ℕ} → IsWalkIn view t w → (0 < len → IsPrintable t w len)
    → (list_all is_printable (slice_range t w.offset (w.offset + len)) ≡ true) × (length (slice_range t w.offset (w.offset + len)) ≡ len)
printable-bytes {len = len} walk printable = (let front = IsPrintable-front len walk printable in (front.bytes, front-size walk front))

-- the walk after them
pub walk-past : (view : View) (t : List ℕ) (w : Walk) (n : ℕ) → IsUtf8 t → IsWalkIn view t w → 0 < n → (0 < n → IsPrintable t w n) → IsWalkIn view t (record { position = w.position + n; offset = w.offset + n; run_end = w.run_end; break_state = break_state_of [] })
walk-past view t w zero utf8 walk some printable = absurd (omega (arith, some))
walk-past view t w (suc n) utf8 walk some printable = (passed-printable view t utf8 w (suc n) walk (printable some)).0

-- each of them is seen
pub seen_len-printable : (view : View) {any : View} (t : List ℕ) (w v : Walk) (n : ℕ) → IsUtf8 t → IsWalkIn any t w → IsWalkIn any t v → v.position ≡ w.position + n → IsPrintableFront t w n → seen_len view t v.position ≡ seen_len view t w.position + n
seen_len-printable view t w v n utf8 from to place front =
    let ordered : w.position ≤ v.position = omega (arith, place) in
    let start = walk_boundary t utf8 w from in
    let end = walk_boundary t utf8 v to in
    let bytes = slice_range t w.offset (w.offset + n) in
    let count : w.offset + n ≡ w.offset + (v.position - w.position) = omega (arith, place) in
    let same : cluster t w.position v.position ≡ bytes
    = ap chars (sym (ap (slice_range t w.offset) count ∙ run-between t utf8 w v from to ordered (omega (arith, place, front.within)))) ∙ chars-IsAscii bytes (IsAscii-from_all bytes (All-printable_is_ascii bytes front.bytes)) in
    omega (
      arith,
      place,
      seen_len-split view t utf8 w.position v.position ordered start end,
      ap (λ cs. length (encode_utf8_all (seen view cs))) same,
      ap (λ cs. length (encode_utf8_all cs)) (seen-all_printable view bytes front.bytes),
      ap (λ cs. length (encode_utf8_all cs)) same,
      part-size view t utf8 w.position v.position ordered start end,
    )

-- the first bytes of the run, by what the code knows of them
pub printable-found : {view : View} {t : List ℕ} {w : Walk} (len : ℕ) → IsWalkIn view t w → len < w.run_end - w.offset → list_all is_printable (take len (drop w.offset t)) ≡ true → is_seen_ascii (slice_index (slice_range t w.offset w.run_end) len) ≡ true → IsPrintable t w len
printable-found {view} {t} {w} len walk inside all next = record {
  within = omega (arith, inside);
  bytes = ap (list_all is_printable) (slice_range-take t w.offset len) ∙ all;
  next = ap is_seen_ascii (sym (get_or-take (w.run_end - w.offset) (drop w.offset t) len 0 inside ∙ get_or-drop w.offset t len 0)) ∙ next;
}

pub printable-at : {view : View} {t : List ℕ} {w : Walk} (len n : ℕ) → IsWalkIn view t w → len ≤ w.run_end - w.offset → list_all is_printable (take len (drop w.offset t)) ≡ true → n < len → is_printable (slice_index t (w.offset + n)) ≡ true
printable-at {view} {t} {w} len n walk inside all less =
    let x = drop w.offset t in
    let size : length (take len x) ≡ len = length-take-le len x (omega (arith, inside, walk.run.end_boundary.0, length-drop w.offset t)) in
    ap is_printable (sym (get_or-drop w.offset t n 0) ∙ sym (get_or-take len x n 0 less)) ∙ all-index n (take len x) (omega (arith, size, less)) all

pub printable-shorter : {view : View} {t : List ℕ} {w : Walk} (len n : ℕ) → IsWalkIn view t w → len ≤ w.run_end - w.offset → list_all is_printable (take len (drop w.offset t)) ≡ true → n < len → IsPrintable t w n
printable-shorter {view} {t} {w} len n walk inside all less =
    let x = drop w.offset t in
    record {
      within = omega (arith, less, inside);
      bytes = ap (list_all is_printable) (slice_range-take t w.offset n ∙ sym (take-take n len x (omega (arith, less)))) ∙ all-take n (take len x) all;
      next = printable-seen (slice_index t (w.offset + n)) (printable-at len n walk inside all less);
    }

-- how many bytes at the front of a part of the run are printable
pub found-bytes : (t : List ℕ) (a b m len : ℕ) → m ≤ b - a → b ≤ length t → a ≤ b → len ≡ prefix_len is_printable (take m (slice_range t a b))
    → (len ≤ m) × (len ≤ b - a) × (list_all is_printable (take len (drop a t)) ≡ true)
found-bytes t a b m len room end ordered len_is =
    let front = take m (slice_range t a b) in
    let size : length front ≡ m = length-take-le m (slice_range t a b) (omega (arith, room, length-slice_range t a b ordered end)) in
    let le_m : len ≤ m = omega (arith, len_is, prefix_len-le-length is_printable front, size) in
    let le_run : len ≤ b - a = omega (arith, le_m, room) in
    let same : take len front ≡ take len (drop a t) = take-take len m (slice_range t a b) le_m ∙ take-take len (b - a) (drop a t) le_run in
    (le_m, le_run, ap (list_all is_printable) (sym same) ∙ ap (λ n. list_all is_printable (take n front)) len_is ∙ all-run is_printable front)

-- ---- a whole run of them

AreClustersIn-push : (view : View) (t : List ℕ) (n : ℕ) (x : List ℕ) (b : ℕ) → AreClustersIn view t n x → seen_clusters view t (n + length x) ≡ (b ∷ []) ∷ seen_clusters view t (n + length x + 1) → AreClustersIn view t n (x ++ b ∷ [])
AreClustersIn-push view t n [] b are last = (let same : n + 0 ≡ n = omega arith in (subst (λ m. seen_clusters view t m ≡ (b ∷ []) ∷ seen_clusters view t (m + 1)) same last, tt))
AreClustersIn-push view t n (c ∷ x) b are last =
    let same : n + suc (length x) ≡ n + 1 + length x = omega arith in
    (are.0, AreClustersIn-push view t (n + 1) x b are.1 (subst (λ m. seen_clusters view t m ≡ (b ∷ []) ∷ seen_clusters view t (m + 1)) same last))

pub advanced-place : (w : Walk) (n : ℕ) → ((advanced w n).position ≡ w.position + n) × ((advanced w n).offset ≡ w.offset + n) × ((advanced w n).run_end ≡ w.run_end)
advanced-place w zero = (omega arith, omega arith, refl)
advanced-place w (suc n) = (refl, refl, refl)

-- the walk after it is at the next run, and each of its bytes is a cluster if one ends there
pub run-passed : (view : View) (t : List ℕ) (w v : Walk) (n : ℕ) → IsUtf8 t → IsWalkIn view t w → w.offset + suc n ≡ w.run_end → list_all is_printable (take (suc n) (drop w.offset t)) ≡ true → v.position ≡ w.position + suc n → IsAtNextRun t w.run_end v
    → IsWalkIn view t v × (EndsAscii t v → AreClustersIn view t w.position (take (suc n) (drop w.offset t))) × IsPastLast view t w v
run-passed view t w v n utf8 walk whole all place next_run =
    let x = drop w.offset t in
    let inside : suc n ≤ w.run_end - w.offset = omega (arith, whole) in
    let room : w.offset + n < length t = omega (arith, whole, walk.run.end_boundary.0) in
    let got = passed-printable view t utf8 w n walk (printable-shorter (suc n) n walk inside all (omega arith)) in
    let here = advanced w n in
    let at = advanced-place w n in
    let b = slice_index t (w.offset + n) in
    let onward = drop (suc (w.offset + n)) t in
    let text : drop here.offset t ≡ b ∷ onward = ap (λ i. drop i t) at.1 ∙ drop-cons t (w.offset + n) 0 room in
    let printing = printable-at (suc n) n walk inside all (omega arith) in
    let before_end : here.offset < here.run_end = omega (arith, at.1, at.2, whole) in
    let next_place : v.position ≡ here.position + 1 = omega (arith, at.0, place) in
    let last = last-walk view t utf8 here got.0 b onward text printing before_end v (omega (arith, at.1, at.2, whole)) next_place (subst (λ m. IsAtNextRun t m v) (sym at.2) next_run) in
    let size_of : length (take n x) ≡ n = length-take-le n x (omega (arith, room, length-drop w.offset t)) in
    let end : here.position ≡ w.position + length (take n x) = omega (arith, at.0, size_of) in
    let more : take n x ++ b ∷ [] ≡ take (suc n) x = ap (λ c. take n x ++ c ∷ []) (sym (get_or-drop w.offset t n 0)) ∙ sym (take-suc x n 0 (omega (arith, room, length-drop w.offset t))) in (
      last,
      λ ends.
          subst (AreClustersIn view t w.position) more (AreClustersIn-push view t w.position (take n x) b (subst (AreClustersIn view t w.position) (slice_range-take t w.offset n) got.1)
          (subst (λ m. seen_clusters view t m ≡ (b ∷ []) ∷ seen_clusters view t (m + 1)) end (last-cluster view t utf8 here got.0 b onward text printing before_end v last next_place ends))),
      λ from position offset.
          (let same : from.position ≡ here.position = omega (arith, position, at.0, whole) in
          let same_offset : from.offset ≡ w.offset + n = omega (arith, offset, whole) in
          let byte : slice_index t from.offset ≡ b = ap (slice_index t) same_offset in
          let one_byte = size view t utf8 here got.0 b onward text printing before_end in
          record {
            within = omega (arith, same_offset, room);
            first = record {
              walk = last;
              one = ap₂ (seen_cluster view t) same next_place ∙ one view t utf8 here got.0 b onward text printing before_end ∙ ap (λ c. c ∷ []) (sym byte);
              size = omega (arith, same, next_place, ap (λ c. length (encode_utf8 c)) byte, one_byte);
            };
          }),
    )

-- the position of its last byte
pub run-within : (view : View) (t : List ℕ) (w : Walk) (n : ℕ) → IsUtf8 t → IsWalkIn view t w → w.offset + suc n ≡ w.run_end → list_all is_printable (take (suc n) (drop w.offset t)) ≡ true → w.position + n ≤ length (plain t)
run-within view t w n utf8 walk whole all =
    let got = passed-printable view t utf8 w n walk (printable-shorter (suc n) n walk (omega (arith, whole)) all (omega arith)) in
    omega (arith, got.0.within, (advanced-place w n).0)

run-past : {any : View} (t : List ℕ) (w v : Walk) (n : ℕ) → IsUtf8 t → IsWalkIn any t w → w.offset + suc n ≡ w.run_end → list_all is_printable (take (suc n) (drop w.offset t)) ≡ true → v.position ≡ w.position + suc n → IsAtNextRun t w.run_end v
    → EndsAscii t v → IsPastAscii t w (suc n) v
run-past {any} t w v n utf8 walk whole all place next_run ends =
    let front : IsPrintableFront t w (suc n) = record { within = omega (arith, whole); bytes = ap (list_all is_printable) (slice_range-take t w.offset (suc n)) ∙ all } in
    record {
      front = front;
      walk = λ view is. (run-passed view t w v n utf8 is whole all place next_run).0;
      position = place;
      clusters = λ view. subst (AreClustersIn view t w.position) (sym (slice_range-take t w.offset (suc n)))
          ((run-passed view t (record w { break_state = break_state_of (seen_before view t w.position) }) v n utf8 (seeing view t utf8 w walk) whole all place next_run).1 ends);
      seen = λ view. seen_len-printable view t w v (suc n) utf8 walk (run-passed any t w v n utf8 walk whole all place next_run).0 place front;
    }

pub past-run : {any : View} (t : List ℕ) (w v : Walk) → IsUtf8 t → IsWalkIn any t w → w.offset < w.run_end → list_all is_printable (slice_range t w.offset w.run_end) ≡ true → v.position ≡ w.position + (w.run_end - w.offset) → IsAtNextRun t w.run_end v
    → EndsAscii t v → IsPastAscii t w (w.run_end - w.offset) v
past-run t w v utf8 walk some all place next_run ends =
    let n = w.run_end - w.offset - 1 in
    let more : suc n ≡ w.run_end - w.offset = omega (arith, some) in
    subst (λ k. IsPastAscii t w k v) more
    (run-past t w v n utf8 walk (omega (arith, some)) (ap (λ k. list_all is_printable (take k (drop w.offset t))) more ∙ all) (omega (arith, place, more)) next_run ends)

-- the walk at the next run is after the last byte
pub next-run : (view : View) (t : List ℕ) (w v : Walk) → IsUtf8 t → IsWalkIn view t w → w.offset < w.run_end → list_all is_printable (slice_range t w.offset w.run_end) ≡ true → v.position ≡ w.position + (w.run_end - w.offset) → IsAtNextRun t w.run_end v
    → IsWalkIn view t v × IsPastLast view t w v
next-run view t w v utf8 walk some all place next_run =
    let n = w.run_end - w.offset - 1 in
    let more : suc n ≡ w.run_end - w.offset = omega (arith, some) in
    let got = run-passed view t w v n utf8 walk (omega (arith, some)) (ap (λ k. list_all is_printable (take k (drop w.offset t))) more ∙ all) (omega (arith, place, more)) next_run in
    (got.0, got.2)

-- ---- the columns that are passed with them

each-single : (bytes : List ℕ) → list_all is_printable bytes ≡ true → list_all has_width (singles bytes) ≡ true
each-single [] all = refl
each-single (b ∷ bytes) all = (let parts = and_parts _ _ all in ap₂ (λ n more. nat_lt 0 n && more) (width-single b parts.0) (each-single bytes parts.1))

pub clusters-past : {view : View} {t : List ℕ} {w v : Walk} {len : ℕ} → IsWalkIn view t w → IsPastAscii t w len v → IsPastClusters view t w v len
clusters-past {view} {t} {w} {v} {len} walk past =
    let size = front-size walk past.front in
    let bytes = slice_range t w.offset (w.offset + len) in
    let same : w.position + length bytes ≡ v.position = omega (arith, size, past.position) in
    record {
      clusters = singles bytes;
      walk = past.walk view walk;
      ordered = omega (arith, past.position);
      all = clusters-passed view t w.position bytes (past.clusters view) ∙ ap (λ n. singles bytes ++ seen_clusters view t n) same;
      seen = omega (arith, past.seen view, bytes-singles bytes past.front.bytes, size);
      each = each-single bytes past.front.bytes;
      columns_are = omega (arith, columns-singles bytes past.front.bytes, size);
      bound = omega (arith, past.position);
    }

pub columns-clusters : {view : View} {t : List ℕ} {w v : Walk} {n : ℕ} → IsPastClusters view t w v n → columns_of (seen_clusters view t w.position) ≡ n + columns_of (seen_clusters view t v.position)
columns-clusters {view} {t} {w} {v} past = omega (arith, past.columns_are, ap columns_of past.all, sum_by-append cluster_width past.clusters (seen_clusters view t v.position))

pub counted-clusters : {view : View} {t : List ℕ} {w v : Walk} {n total : ℕ} → IsPastClusters view t w v n → IsCountedTo view t w.position total → IsCountedTo view t v.position (total + n)
counted-clusters past counted = record { all = omega (arith, counted.all, columns-clusters past); bound = omega (arith, counted.bound, past.bound, past.ordered) }

pub fitting-clusters : {view : View} {t : List ℕ} {w v : Walk} {width n left : ℕ} → IsPastClusters view t w v n → n ≤ left → IsFittingTo view t width w.position left → IsFittingTo view t width v.position (left - n)
fitting-clusters {view} {t} {w} {v} past fits fitting =
    let more = past.clusters in
    record {
      front = fitting.front ++ more;
      all = fitting.all ∙ ap (λ ks. fitting.front ++ ks) past.all ∙ sym (append_assoc fitting.front more (seen_clusters view t v.position));
      boundary = omega (arith, past.seen, fitting.boundary, bytes_of-append fitting.front more);
      columns = omega (arith, fitting.columns, fits, past.columns_are, sum_by-append cluster_width fitting.front more);
    }

pub columns-past : {view : View} {t : List ℕ} {w v : Walk} {len : ℕ} → IsWalkIn view t w → IsPastAscii t w len v → columns_of (seen_clusters view t w.position) ≡ len + columns_of (seen_clusters view t v.position)
columns-past walk past = columns-clusters (clusters-past walk past)

pub fitting-past : {view : View} {t : List ℕ} {w v : Walk} {width len left : ℕ} → IsWalkIn view t w → IsPastAscii t w len v → len ≤ left → IsFittingTo view t width w.position left → IsFittingTo view t width v.position (left - len)
fitting-past walk past fits fitting = fitting-clusters (clusters-past walk past) fits fitting

-- a walk at another run has passed some
pub past-some : {w v : Walk} {len : ℕ} → (len ≡ 0 → v ≡ w) → w.run_end < v.run_end → 0 < len
past-some {w} {v} {len = zero} none less = (let same : v.run_end ≡ w.run_end = ap (λ (u : Walk). u.run_end) (none refl) in absurd (omega (arith, same, less)))
past-some {w} {v} {len = suc n} none less = omega arith

-- so are fewer bytes, which others follow
pub front-fewer : {view : View} {t : List ℕ} {w : Walk} (n m : ℕ) → IsWalkIn view t w → IsPrintableFront t w n → m < n → IsPrintable t w m
front-fewer {view} {t} {w} n m walk front less =
    printable-shorter n m walk (omega (arith, front.within)) (ap (list_all is_printable) (sym (slice_range-take t w.offset n)) ∙ front.bytes) less

pub IsPrintable-fewer : {view : View} {t : List ℕ} {w : Walk} (n m : ℕ) → IsWalkIn view t w → IsPrintable t w n → m < n → IsPrintable t w m
IsPrintable-fewer n m walk printable less = front-fewer n m walk (IsPrintable-front n walk (λ some. printable)) less

pub IsPrintable-up_to : {view : View} {t : List ℕ} {w : Walk} (n m : ℕ) → IsWalkIn view t w → (0 < n → IsPrintable t w n) → m ≤ n → 0 < m → IsPrintable t w m
IsPrintable-up_to {view} {t} {w} n m walk printable le some = elim (cases_lt m n) [
  | inl less ↦ IsPrintable-fewer n m walk (printable (omega (arith, le, some))) less
  | inr most ↦ (let same : n ≡ m = omega (arith, most, le) in subst (IsPrintable t w) same (printable (omega (arith, le, some))))
]
