-- The columns of clusters that are read one after another.
use Rattle.std.proofs.Common.{◌≡◌, ℕ, ◌+◌, ◌-◌, ◌*◌, ◌<◌, ◌≤◌, List, [], ◌∷◌, ◌++◌, length, take, drop, slice_index, slice_range, flat_map, encode_utf8, encode_utf8_all, Option, Some, None, MatchOption, subst, refl, sym, ◌∙◌, ap, ap₂, arith, zero-add, append_assoc, append-nil, length-append}
use Rattle.std.specs.Str.{chars, IsUtf8, IsCharBoundary}
use Rattle.std.proofs.lemmas.List.{take_at, length-drop}
use Rattle.std.proofs.lemmas.List.Sums.{sum_by-cons, sum_by-append}
use Rattle.std.proofs.lemmas.Grind.{flat_map-append}
use Rattle.std.proofs.lemmas.Str.{chars-nil, encodes-chars, IsUtf8-between, IsUtf8-drop}
use Rattle.unicode_segmentation.proofs.TextLemmas.{encode_utf8_nonempty}
use Rattle.ansi_items.specs.Plain.{plain}
use Rattle.ansi_items.proofs.Utf8Lemmas.{IsUtf8-plain}
use Rattle.ansi_search.proofs.SliceLemmas.{length-slice_range}
use Rattle.ansi_clusters.specs.Columns.{clusters, cluster_width, columns_of, columns, bytes_of, FitsUpTo}
use Rattle.ansi_clusters.specs.declared.views.View.{View}
use Rattle.ansi_clusters.specs.declared.views.View.TheVariants.{Given, Shown, Lined}
use Rattle.ansi_clusters.specs.declared.walks.Walk.{Walk}
use Rattle.ansi_clusters.specs.Views.{seen_char, seen, seen_text, seen_len}
use Rattle.ansi_clusters.specs.Walks.{after, cluster, clusters_after, clusters_from, seen_after, seen_cluster, seen_clusters, IsWalkIn, IsSeenNext, IsFittingTo, SeesUpTo, IsCountedTo}
use Rattle.ansi_clusters.proofs.ClusterLemmas.{clusters-none}
use Rattle.ansi_clusters.proofs.ViewLemmas.{seen_before-start, seen-one, seen-append, seen-chars, part-size, after-split, seen_len-split, seen_len-none}
use Rattle.ansi_clusters.proofs.WalkLemmas.{before-start, walk_boundary, after-past}

pub clusters_from-start : (t : List ℕ) → clusters_from t 0 ≡ clusters (plain t)
clusters_from-start t = ap (λ before. clusters_after before (chars (plain t))) (before-start t)

pub seen_clusters-start : (view : View) (t : List ℕ) → IsUtf8 t → seen_clusters view t 0 ≡ clusters (seen_text view t)
seen_clusters-start view t utf8 = ap (λ before. clusters_after before (seen view (chars (plain t)))) (seen_before-start view t) ∙ ap (clusters_after []) (sym (seen-chars view t utf8))

pub seen_clusters-end : (view : View) (t : List ℕ) (n : ℕ) → seen_after view t n ≡ [] → seen_clusters view t n ≡ []
seen_clusters-end view t n none = ap (clusters_after _) none ∙ clusters-none _

pub clusters_from-end : (t : List ℕ) (n : ℕ) → after t n ≡ [] → clusters_from t n ≡ []
clusters_from-end t n none = seen_clusters-end Given t n none

-- The number of columns before a position: with those after it, they are the columns of what is seen.
pub counted-begin : (view : View) (t : List ℕ) → IsUtf8 t → IsCountedTo view t 0 0
counted-begin view t utf8 = record { all = zero-add _ ∙ ap columns_of (seen_clusters-start view t utf8); bound = omega arith }

pub counted-next : {view : View} {t : List ℕ} {n m total k sum : ℕ} → IsCountedTo view t n total → sum ≡ total + k → n < m → seen_clusters view t n ≡ seen_cluster view t n m ∷ seen_clusters view t m
    → k ≡ cluster_width (seen_cluster view t n m) → k ≤ 2 * (m - n) → IsCountedTo view t m sum
counted-next {view} {t} {n} {m} counted sum_is less first is most = record {
  all = omega (arith, counted.all, sum_is, is, ap columns_of first, sum_by-cons cluster_width (seen_cluster view t n m) (seen_clusters view t m));
  bound = omega (arith, counted.bound, sum_is, less, most);
}

pub counted-end : {view : View} {t : List ℕ} {n total : ℕ} → IsCountedTo view t n total → seen_after view t n ≡ [] → total ≡ columns (seen_text view t)
counted-end {view} {t} {n} counted none = omega (arith, counted.all, ap columns_of (seen_clusters-end view t n none))

-- The clusters up to a position that fit.

pub seen_len-start : (view : View) (t : List ℕ) → seen_len view t 0 ≡ 0
seen_len-start Given t = refl
seen_len-start Shown t = ap (λ cs. length (encode_utf8_all (seen Shown cs))) chars-nil
seen_len-start Lined t = ap (λ cs. length (encode_utf8_all (seen Lined cs))) chars-nil

pub fitting-begin : (view : View) (t : List ℕ) (width : ℕ) → IsUtf8 t → IsFittingTo view t width 0 width
fitting-begin view t width utf8 = record { front = []; all = sym (seen_clusters-start view t utf8); boundary = seen_len-start view t; columns = zero-add width }

pub bytes_of-push : (front : List (List ℕ)) (k : List ℕ) → bytes_of (front ++ k ∷ []) ≡ bytes_of front + length (encode_utf8_all k)
bytes_of-push front k =
    ap length (flat_map-append encode_utf8_all front (k ∷ [])) ∙ length-append (flat_map encode_utf8_all front) (flat_map encode_utf8_all (k ∷ []))
    ∙ ap (λ u. bytes_of front + length u) (append-nil (encode_utf8_all k))

-- clusters have no fewer bytes than their front
pub bytes_of-append : (front rest : List (List ℕ)) → bytes_of (front ++ rest) ≡ bytes_of front + bytes_of rest
bytes_of-append front rest = ap length (flat_map-append encode_utf8_all front rest) ∙ length-append (flat_map encode_utf8_all front) (flat_map encode_utf8_all rest)

pub columns_of-push : (front : List (List ℕ)) (k : List ℕ) → columns_of (front ++ k ∷ []) ≡ columns_of front + cluster_width k
columns_of-push front k = sum_by-append cluster_width front (k ∷ []) ∙ ap (λ n. columns_of front + n) (zero-add (cluster_width k))

pub cluster-bytes : (t : List ℕ) (n m : ℕ) → IsUtf8 t → n ≤ m → IsCharBoundary (plain t) n → IsCharBoundary (plain t) m → length (encode_utf8_all (cluster t n m)) ≡ m - n
cluster-bytes t n m utf8 ordered start end =
    ap length (encodes-chars (slice_range (plain t) n m) (IsUtf8-between (plain t) n m (IsUtf8-plain t utf8) ordered start end)) ∙ length-slice_range (plain t) n m ordered end.0

pub fitting-more : {view : View} {t : List ℕ} {width n m left k : ℕ} → IsFittingTo view t width n left → IsUtf8 t → IsCharBoundary (plain t) n → IsCharBoundary (plain t) m → n < m
    → seen_clusters view t n ≡ seen_cluster view t n m ∷ seen_clusters view t m → k ≡ cluster_width (seen_cluster view t n m) → k ≤ left → IsFittingTo view t width m (left - k)
fitting-more {view} {t} {width} {n} {m} fitting utf8 start end less first is fits = record {
  front = fitting.front ++ seen_cluster view t n m ∷ [];
  all = fitting.all ∙ ap (λ ks. fitting.front ++ ks) first ∙ sym (append_assoc fitting.front (seen_cluster view t n m ∷ []) (seen_clusters view t m));
  boundary = omega (arith, fitting.boundary, bytes_of-push fitting.front (seen_cluster view t n m), seen_len-split view t utf8 n m (omega (arith, less)) start end);
  columns = omega (arith, fitting.columns, is, fits, columns_of-push fitting.front (seen_cluster view t n m));
}

front_taken : {x : List (List ℕ)} (front rest : List (List ℕ)) → x ≡ front ++ rest → take (length front) x ≡ front
front_taken front rest e = ap (take (length front)) e ∙ take_at front rest (length front) refl

pub fitting-all : {view : View} {t : List ℕ} {width n left : ℕ} → IsFittingTo view t width n left → seen_after view t n ≡ [] → FitsUpTo (seen_text view t) width (seen_len view t n)
fitting-all {view} {t} {width} {n} fitting none =
    let taken = front_taken fitting.front (seen_clusters view t n) fitting.all in
    record {
      count = length fitting.front;
      boundary = fitting.boundary ∙ ap bytes_of (sym taken);
      fits = omega (arith, fitting.columns, ap columns_of taken);
      greatest = λ more. absurd (omega (arith, more, ap length (fitting.all ∙ ap (λ ks. fitting.front ++ ks) (seen_clusters-end view t n none) ∙ append-nil fitting.front)));
    }

pub fitting-before : {view : View} {t : List ℕ} {width n left k : ℕ} (next : List ℕ) (others : List (List ℕ)) → IsFittingTo view t width n left → seen_clusters view t n ≡ next ∷ others → k ≡ cluster_width next → left < k → FitsUpTo (seen_text view t) width (seen_len view t n)
fitting-before {view} {t} {width} {n} next others fitting first is less =
    let taken = front_taken fitting.front (seen_clusters view t n) fitting.all in
    let more : take (length fitting.front + 1) (clusters (seen_text view t)) ≡ fitting.front ++ next ∷ []
    = ap₂ take (sym (length-append fitting.front (next ∷ []))) (fitting.all ∙ ap (λ ks. fitting.front ++ ks) first ∙ sym (append_assoc fitting.front (next ∷ []) others))
    ∙ take_at (fitting.front ++ next ∷ []) others (length (fitting.front ++ next ∷ [])) refl in
    record {
      count = length fitting.front;
      boundary = fitting.boundary ∙ ap bytes_of (sym taken);
      fits = omega (arith, fitting.columns, ap columns_of taken);
      greatest = λ _. omega (arith, fitting.columns, is, less, ap columns_of more, columns_of-push fitting.front next);
    }

pub fitting-stop : {view : View} {t : List ℕ} {width n left k : ℕ} (m : ℕ) → IsFittingTo view t width n left → seen_clusters view t n ≡ seen_cluster view t n m ∷ seen_clusters view t m → k ≡ cluster_width (seen_cluster view t n m) → left < k
    → FitsUpTo (seen_text view t) width (seen_len view t n)
fitting-stop {view} {t} {n = n} m fitting first is less = fitting-before (seen_cluster view t n m) (seen_clusters view t m) fitting first is less

-- ---- the greatest position

-- no byte is left if no character is
none_left : (t : List ℕ) (n : ℕ) → IsUtf8 t → IsCharBoundary (plain t) n → after t n ≡ [] → length (plain t) ≤ n
none_left t n utf8 start none =
    let bytes : drop n (plain t) ≡ [] = sym (encodes-chars (drop n (plain t)) (IsUtf8-drop (plain t) n (IsUtf8-plain t utf8) start)) ∙ ap encode_utf8_all none in
    omega (arith, ap length bytes, length-drop n (plain t))

module _ (view : View) (t : List ℕ) (utf8 : IsUtf8 t) (w : Walk) (walk : IsWalkIn view t w) where
  some_seen : (c : ℕ) (next : IsSeenNext view t w c) (later : ℕ) → IsCharBoundary (plain t) later → w.position < later → seen_len view t w.position < seen_len view t later
  some_seen c next later end less =
      let n = w.position in
      let start = walk_boundary t utf8 w walk in
      let split : next.given ∷ after t (n + length (encode_utf8 next.given)) ≡ cluster t n later ++ after t later
      = sym (after-past t utf8 w walk next.given next.next) ∙ after-split Given t utf8 n later (omega (arith, less)) start end in
      let size = part-size view t utf8 n later (omega (arith, less)) start end in
      by (cluster t n later) refl split size (seen_len-split view t utf8 n later (omega (arith, less)) start end)
    where
      by : (cs : List ℕ) → cluster t w.position later ≡ cs → next.given ∷ after t (w.position + length (encode_utf8 next.given)) ≡ cs ++ after t later → length (encode_utf8_all cs) ≡ later - w.position
          → seen_len view t later ≡ seen_len view t w.position + length (encode_utf8_all (seen view cs)) → seen_len view t w.position < seen_len view t later
      by [] is split size len = absurd (omega (arith, size, less))
      by (d ∷ cs) is split size len =
          let same : next.given ≡ d = ap (λ x. slice_index x 0) split in
          let first : seen view (d ∷ cs) ≡ c ∷ seen view cs
          = seen-append view (d ∷ []) cs ∙ ap (λ u. u ++ seen view cs) (seen-one view d ∙ ap (seen_char view) (sym same) ∙ next.seen) in
          omega (arith, len, ap (λ x. length (encode_utf8_all x)) first, length-append (encode_utf8 c) (encode_utf8_all (seen view cs)), encode_utf8_nonempty c)

  pub seen-greatest : (r : Option ℕ) → MatchOption r (after t w.position ≡ []) (IsSeenNext view t w) → (later : ℕ) → IsCharBoundary (plain t) later → w.position < later → seen_len view t w.position < seen_len view t later
  seen-greatest (Some c) next later end less = some_seen c next later end less
  seen-greatest None none later end less = absurd (omega (arith, none_left t w.position utf8 (walk_boundary t utf8 w walk) none, end.0, less))

  -- a position that fits, up to which nothing more is seen
  pub sees-up_to : {width : ℕ} (n : ℕ) (r : Option ℕ) → FitsUpTo (seen_text view t) width (seen_len view t n) → seen_len view t w.position ≡ seen_len view t n → MatchOption r (after t w.position ≡ []) (IsSeenNext view t w) → SeesUpTo view t width w.position
  sees-up_to {width} n r fits same next = record { fits = subst (FitsUpTo (seen_text view t) width) (sym same) fits; greatest = seen-greatest r next }

-- the same of the end of what isn't seen and follows a walk
module _ (view : View) (t : List ℕ) (utf8 : IsUtf8 t) (w v : Walk) (from : IsWalkIn view t w) (to : IsWalkIn view t v) (ordered : w.position ≤ v.position) (left_out : seen_cluster view t w.position v.position ≡ []) where
  pub seen_len-past : seen_len view t v.position ≡ seen_len view t w.position
  seen_len-past = seen_len-none view t utf8 w.position v.position ordered (walk_boundary t utf8 w from) (walk_boundary t utf8 v to) left_out

  pub sees-past : {width : ℕ} (r : Option ℕ) → FitsUpTo (seen_text view t) width (seen_len view t w.position) → MatchOption r (after t v.position ≡ []) (IsSeenNext view t v) → SeesUpTo view t width v.position
  sees-past r fits next = sees-up_to view t utf8 v to w.position r fits seen_len-past next
