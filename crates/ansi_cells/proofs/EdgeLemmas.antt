-- Edges between columns: the clusters before one, and the cluster that it divides.
use Rattle.std.proofs.Common.{◌≡◌, ℕ, ◌+◌, ◌-◌, ◌*◌, ◌<◌, ◌≤◌, ◌⊎◌, inl, inr, true, false, not, ◌&&◌, ◌==◌, List, [], ◌∷◌, ◌++◌, length, drop, flat_map, encode_utf8_all, nat_le, nat_lt, if◌then◌else◌, refl, sym, ◌∙◌, ap, ap₂, subst, arith, zero-add, append_assoc, append-nil, length-append}
use Rattle.std.specs.List.{list_all}
use Rattle.std.specs.Str.{IsUtf8, IsCharBoundary, chars}
use Rattle.std.proofs.lemmas.Bool.{and_parts, cases_lt, le-leb, lt-leb, lt-ltb, le-ltb, and_right, ne_eqb}
use Rattle.std.proofs.lemmas.Bool.Decides.{eqb_tells}
use borrow.Author.Tests.{ltb-true}
use Rattle.std.proofs.lemmas.List.Sums.{sum_by-cons, sum_by-append}
use Rattle.std.proofs.lemmas.Grind.{flat_map-append}
use Rattle.std.proofs.lemmas.Str.{encodes-chars}
use Rattle.unicode_width.specs.Width.{str_width}
use Rattle.ansi_items.specs.Plain.{plain}
use Rattle.ansi_cells.specs.declared.slices.Edge.{Edge}
use Rattle.ansi_clusters.specs.declared.walks.Walk.{Walk}
use Rattle.ansi_clusters.specs.Columns.{clusters, cluster_width, columns_of, columns, bytes_of}
use Rattle.ansi_clusters.specs.declared.views.View.TheVariants.{Given}
use Rattle.ansi_clusters.specs.Walks.{after, cluster, clusters_from, IsWalk, IsPastClusters, has_width}
use Rattle.ansi_cells.specs.Slices.{ended, begun, IsEdge}
use Rattle.ansi_clusters.proofs.PrintableLemmas.{columns-clusters}
use Rattle.ansi_clusters.proofs.WidthLemmas.{read-bound}
use Rattle.ansi_clusters.proofs.ClusterLawLemmas.{clusters_after-bytes}
use Rattle.ansi_clusters.proofs.ColumnLemmas.{bytes_of-push, columns_of-push, cluster-bytes, clusters_from-end}

pub bytes_of-append : (ks ls : List (List ℕ)) → bytes_of (ks ++ ls) ≡ bytes_of ks + bytes_of ls
bytes_of-append ks ls = ap length (flat_map-append encode_utf8_all ks ls) ∙ length-append (flat_map encode_utf8_all ks) (flat_map encode_utf8_all ls)

bytes_of-one : (k : List ℕ) → bytes_of (k ∷ []) ≡ length (encode_utf8_all k)
bytes_of-one k = ap length (append-nil (encode_utf8_all k))

-- One cluster after another.

pub ended-pass : (n : ℕ) (k : List ℕ) (ks : List (List ℕ)) → 0 < n → cluster_width k ≤ n → ended n (k ∷ ks) ≡ k ∷ ended (n - cluster_width k) ks
ended-pass n k ks some fits = ap₂ (λ a b. if a && b then k ∷ ended (n - cluster_width k) ks else []) (lt-ltb 0 n some) (le-leb (cluster_width k) n fits)

pub ended-stop : (n : ℕ) (k : List ℕ) (ks : List (List ℕ)) → n < cluster_width k → ended n (k ∷ ks) ≡ []
ended-stop n k ks wide = ap (λ b. if b then k ∷ ended (n - cluster_width k) ks else []) (and_right (nat_lt 0 n) (nat_le (cluster_width k) n) (lt-leb (cluster_width k) n wide))

pub ended-zero : (ks : List (List ℕ)) → ended 0 ks ≡ []
ended-zero [] = refl
ended-zero (k ∷ ks) = refl

pub begun-pass : (n : ℕ) (k : List ℕ) (ks : List (List ℕ)) → 0 < n → begun n (k ∷ ks) ≡ k ∷ begun (n - cluster_width k) ks
begun-pass n k ks some = ap (λ b. if b then k ∷ begun (n - cluster_width k) ks else []) (lt-ltb 0 n some)

pub begun-zero : (ks : List (List ℕ)) → begun 0 ks ≡ []
begun-zero [] = refl
begun-zero (k ∷ ks) = refl

-- the cluster that the edge divides is the last that has begun
pub begun-divided : (n : ℕ) (k : List ℕ) (ks : List (List ℕ)) → 0 < n → n < cluster_width k → begun n (k ∷ ks) ≡ k ∷ []
begun-divided n k ks some wide =
    let none : n - cluster_width k ≡ 0 = omega arith in
    begun-pass n k ks some ∙ ap (λ m. k ∷ begun m ks) none ∙ ap (λ ls. k ∷ ls) (begun-zero ks)

-- The clusters before an edge, if a text is read up to a place that has this number of columns before the edge.

pub record IsEdgeSoFar (t : List ℕ) (here n place left : ℕ) : Type 0 where
  pub front : List (List ℕ)
  pub all : clusters_from t here ≡ front ++ clusters_from t place
  pub place_is : place ≡ here + bytes_of front
  pub ended_are : ended n (clusters_from t here) ≡ front ++ ended left (clusters_from t place)
  pub begun_are : begun n (clusters_from t here) ≡ front ++ begun left (clusters_from t place)
  pub columns : columns_of front + left ≡ n

pub edge-begin : (t : List ℕ) (here n : ℕ) → IsEdgeSoFar t here n here n
edge-begin t here n = record { front = []; all = refl; place_is = omega arith; ended_are = refl; begun_are = refl; columns = zero-add n }

edge-step : {t : List ℕ} {here n p m left k : ℕ} (c : List ℕ) → IsEdgeSoFar t here n p left → m ≡ p + length (encode_utf8_all c) → clusters_from t p ≡ c ∷ clusters_from t m → k ≡ cluster_width c → 0 < left → k ≤ left → IsEdgeSoFar t here n m (left - k)
edge-step {t} {here} {n} {p} {m} {left} {k} c so_far place first is some fits =
    let front = so_far.front in
    let rest = clusters_from t m in
    let room : cluster_width c ≤ left = omega (arith, is, fits) in
    record {
      front = front ++ c ∷ [];
      all = so_far.all ∙ ap (λ ks. front ++ ks) first ∙ sym (append_assoc front (c ∷ []) rest);
      place_is = omega (arith, so_far.place_is, place, bytes_of-push front c);
      ended_are = so_far.ended_are ∙ ap (λ ks. front ++ ended left ks) first ∙ ap (λ ks. front ++ ks) (ended-pass left c rest some room)
          ∙ ap (λ w. front ++ c ∷ ended (left - w) rest) (sym is) ∙ sym (append_assoc front (c ∷ []) (ended (left - k) rest));
      begun_are = so_far.begun_are ∙ ap (λ ks. front ++ begun left ks) first ∙ ap (λ ks. front ++ ks) (begun-pass left c rest some)
          ∙ ap (λ w. front ++ c ∷ begun (left - w) rest) (sym is) ∙ sym (append_assoc front (c ∷ []) (begun (left - k) rest));
      columns = omega (arith, so_far.columns, is, fits, columns_of-push front c);
    }

pub edge-more : {t : List ℕ} {here n p m left k : ℕ} → IsEdgeSoFar t here n p left → IsUtf8 t → IsCharBoundary (plain t) p → IsCharBoundary (plain t) m → p < m
    → clusters_from t p ≡ cluster t p m ∷ clusters_from t m → k ≡ cluster_width (cluster t p m) → 0 < left → k ≤ left → IsEdgeSoFar t here n m (left - k)
edge-more {t} {p = p} {m = m} so_far utf8 start end less first is some fits = edge-step (cluster t p m) so_far (omega (arith, less, cluster-bytes t p m utf8 (omega arith) start end)) first is some fits

-- the next clusters have columns

ended-clusters : (n : ℕ) (ks rest : List (List ℕ)) → list_all has_width ks ≡ true → columns_of ks ≤ n → (ended n (ks ++ rest) ≡ ks ++ ended (n - columns_of ks) rest) × (begun n (ks ++ rest) ≡ ks ++ begun (n - columns_of ks) rest)
ended-clusters n [] rest each fits = (let same : n ≡ n - columns_of [] = omega arith in (ap (λ m. ended m rest) same, ap (λ m. begun m rest) same))
ended-clusters n (k ∷ ks) rest each fits =
    let parts = and_parts _ _ each in
    let some : 0 < cluster_width k = ltb-true 0 (cluster_width k) parts.0 in
    let size = sum_by-cons cluster_width k ks in
    let room : cluster_width k ≤ n = omega (arith, size, fits) in
    let more = ended-clusters (n - cluster_width k) ks rest parts.1 (omega (arith, size, fits)) in
    let left : n - cluster_width k - columns_of ks ≡ n - columns_of (k ∷ ks) = omega (arith, size) in (
      ended-pass n k (ks ++ rest) (omega (arith, some, room)) room ∙ ap (λ ls. k ∷ ls) more.0 ∙ ap (λ m. k ∷ (ks ++ ended m rest)) left,
      begun-pass n k (ks ++ rest) (omega (arith, some, room)) ∙ ap (λ ls. k ∷ ls) more.1 ∙ ap (λ m. k ∷ (ks ++ begun m rest)) left,
    )

pub edge-clusters : {t : List ℕ} {here n columns left : ℕ} {w v : Walk} → IsPastClusters Given t w v columns → columns ≤ left → IsEdgeSoFar t here n w.position left → IsEdgeSoFar t here n v.position (left - columns)
edge-clusters {t} {here} {n} {columns} {left} {w} {v} past fits so_far =
    let front = so_far.front in
    let ks = past.clusters in
    let rest = clusters_from t v.position in
    let passed = ended-clusters left ks rest past.each (omega (arith, fits, past.columns_are)) in
    record {
      front = front ++ ks;
      all = so_far.all ∙ ap (λ u. front ++ u) past.all ∙ sym (append_assoc front ks rest);
      place_is = omega (arith, so_far.place_is, past.seen, bytes_of-append front ks);
      ended_are = so_far.ended_are ∙ ap (λ u. front ++ ended left u) past.all ∙ ap (λ u. front ++ u) passed.0
          ∙ ap (λ m. front ++ (ks ++ ended (left - m) rest)) (sym past.columns_are) ∙ sym (append_assoc front ks (ended (left - columns) rest));
      begun_are = so_far.begun_are ∙ ap (λ u. front ++ begun left u) past.all ∙ ap (λ u. front ++ u) passed.1
          ∙ ap (λ m. front ++ (ks ++ begun (left - m) rest)) (sym past.columns_are) ∙ sym (append_assoc front ks (begun (left - columns) rest));
      columns = omega (arith, so_far.columns, past.columns_are, fits, sum_by-append cluster_width front ks);
    }

-- no column is left, or no cluster
pub edge-stop : {t : List ℕ} {here n left : ℕ} {walk : Walk} → IsWalk t walk → IsEdgeSoFar t here n walk.position left → ended left (clusters_from t walk.position) ≡ [] → begun left (clusters_from t walk.position) ≡ []
    → IsEdge t here n (record { start = walk; end = walk; before = left; after = 0 })
edge-stop {t} {here} {n} {left} {walk} is so_far none none_begun =
    let front = so_far.front in
    let ended_is : ended n (clusters_from t here) ≡ front = so_far.ended_are ∙ ap (λ ks. front ++ ks) none ∙ append-nil front in
    let begun_is : begun n (clusters_from t here) ≡ front = so_far.begun_are ∙ ap (λ ks. front ++ ks) none_begun ∙ append-nil front in
    record {
      start_walk = is;
      end_walk = is;
      start = so_far.place_is ∙ ap (λ ks. here + bytes_of ks) (sym ended_is);
      end = so_far.place_is ∙ ap (λ ks. here + bytes_of ks) (sym begun_is);
      ordered = omega arith;
      before = omega (arith, so_far.columns, ap columns_of ended_is);
      after = omega (arith, so_far.columns, ap columns_of begun_is);
      rest = so_far.all ∙ ap (λ ks. ks ++ clusters_from t walk.position) (sym ended_is);
    }

pub edge-no_column : {t : List ℕ} {here n left : ℕ} {walk : Walk} → IsWalk t walk → IsEdgeSoFar t here n walk.position left → left ≡ 0 → IsEdge t here n (record { start = walk; end = walk; before = left; after = 0 })
edge-no_column {t} {walk = walk} is so_far none =
    let ks = clusters_from t walk.position in
    edge-stop is so_far (ap (λ m. ended m ks) none ∙ ended-zero ks) (ap (λ m. begun m ks) none ∙ begun-zero ks)

pub edge-no_cluster : {t : List ℕ} {here n left : ℕ} {walk : Walk} → IsWalk t walk → IsEdgeSoFar t here n walk.position left → after t walk.position ≡ [] → IsEdge t here n (record { start = walk; end = walk; before = left; after = 0 })
edge-no_cluster {t} {left = left} {walk = walk} is so_far none =
    let end = clusters_from-end t walk.position none in
    edge-stop is so_far (ap (ended left) end) (ap (begun left) end)

-- the next cluster is divided
pub edge-divided : {t : List ℕ} {here n left width : ℕ} {walk next : Walk} → IsWalk t walk → IsWalk t next → IsEdgeSoFar t here n walk.position left → IsUtf8 t → IsCharBoundary (plain t) walk.position → IsCharBoundary (plain t) next.position
    → walk.position < next.position → clusters_from t walk.position ≡ cluster t walk.position next.position ∷ clusters_from t next.position → width ≡ cluster_width (cluster t walk.position next.position) → 0 < left → left < width
    → IsEdge t here n (record { start = walk; end = next; before = left; after = width - left })
edge-divided {t} {here} {n} {left} {width} {walk} {next} is next_is so_far utf8 start end less first is_width some wide =
    let front = so_far.front in
    let c = cluster t walk.position next.position in
    let rest = clusters_from t next.position in
    let more : left < cluster_width c = omega (arith, is_width, wide) in
    let ended_is : ended n (clusters_from t here) ≡ front
    = so_far.ended_are ∙ ap (λ ks. front ++ ended left ks) first ∙ ap (λ ks. front ++ ks) (ended-stop left c rest more) ∙ append-nil front in
    let begun_is : begun n (clusters_from t here) ≡ front ++ c ∷ []
    = so_far.begun_are ∙ ap (λ ks. front ++ begun left ks) first ∙ ap (λ ks. front ++ ks) (begun-divided left c rest some more) in
    record {
      start_walk = is;
      end_walk = next_is;
      start = so_far.place_is ∙ ap (λ ks. here + bytes_of ks) (sym ended_is);
      end = omega (arith, less, so_far.place_is, ap bytes_of begun_is, bytes_of-push front c, cluster-bytes t walk.position next.position utf8 (omega arith) start end);
      ordered = omega (arith, less);
      before = omega (arith, so_far.columns, ap columns_of ended_is);
      after = omega (arith, so_far.columns, is_width, ap columns_of begun_is, columns_of-push front c);
      rest = so_far.all ∙ ap (λ ks. ks ++ clusters_from t walk.position) (sym ended_is);
    }

-- Clusters without columns are passed over.

pub no_columns-more : (t : List ℕ) (here n m : ℕ) {k : ℕ} → columns_of (clusters_from t here) ≡ columns_of (clusters_from t n) → clusters_from t n ≡ cluster t n m ∷ clusters_from t m → k ≡ cluster_width (cluster t n m) → k ≡ 0
    → columns_of (clusters_from t here) ≡ columns_of (clusters_from t m)
no_columns-more t here n m same first is none = omega (arith, same, is, none, ap columns_of first, sum_by-cons cluster_width (cluster t n m) (clusters_from t m))

pub has_columns : (t : List ℕ) (here n m : ℕ) {k : ℕ} → columns_of (clusters_from t here) ≡ columns_of (clusters_from t n) → clusters_from t n ≡ cluster t n m ∷ clusters_from t m → k ≡ cluster_width (cluster t n m) → 0 < k
    → true ≡ nat_lt 0 (columns_of (clusters_from t here))
has_columns t here n m same first is some = sym (lt-ltb 0 (columns_of (clusters_from t here)) (omega (arith, same, is, some, ap columns_of first, sum_by-cons cluster_width (cluster t n m) (clusters_from t m))))

pub has_columns-past : {t : List ℕ} {w v : Walk} {n : ℕ} → IsPastClusters Given t w v n → 0 < n → true ≡ nat_lt 0 (columns_of (clusters_from t w.position))
has_columns-past {t} {w} past some = sym (lt-ltb 0 (columns_of (clusters_from t w.position)) (omega (arith, columns-clusters past, some)))

pub has_no_columns : (t : List ℕ) (here n : ℕ) → columns_of (clusters_from t here) ≡ columns_of (clusters_from t n) → after t n ≡ [] → false ≡ nat_lt 0 (columns_of (clusters_from t here))
has_no_columns t here n same none = sym (le-ltb 0 (columns_of (clusters_from t here)) (omega (arith, same, ap columns_of (clusters_from-end t n none))))

-- What is before an edge, and what is after it.

pub ended-within : (n : ℕ) (ks : List (List ℕ)) → columns_of (ended n ks) ≤ n
ended-within n [] = omega arith
ended-within n (k ∷ ks) = elim (cases_lt 0 n) [
  | inl some ↦ elim (cases_lt n (cluster_width k)) [
    | inl wide ↦ omega (arith, ap columns_of (ended-stop n k ks wide))
    | inr fits ↦ omega (arith, fits, ap columns_of (ended-pass n k ks some fits), sum_by-cons cluster_width k (ended (n - cluster_width k) ks), ended-within (n - cluster_width k) ks)
  ]
  | inr none ↦ (let zero_is : n ≡ 0 = omega (arith, none) in omega (arith, ap (λ m. columns_of (ended m (k ∷ ks))) zero_is))
]

-- what has begun is at most all
pub begun-within : (n : ℕ) (ks : List (List ℕ)) → columns_of (begun n ks) ≤ columns_of ks
begun-within n [] = omega arith
begun-within n (k ∷ ks) = elim (cases_lt 0 n) [
  | inl any ↦
      let w = cluster_width k in
      omega (arith, ap columns_of (begun-pass n k ks any), sum_by-cons cluster_width k (begun (n - w) ks), sum_by-cons cluster_width k ks, begun-within (n - w) ks)
  | inr none ↦ (let zero_is : n ≡ 0 = omega (arith, none) in omega (arith, ap (λ m. columns_of (begun m (k ∷ ks))) zero_is))
]

-- the first column of a text is before an edge, or its cluster is divided
any-column : (n : ℕ) (ks : List (List ℕ)) → 0 < n → 0 < columns_of ks → (0 < columns_of (ended n ks)) ⊎ (n < columns_of (begun n ks))
any-column n [] some any = absurd (omega (arith, any))
any-column n (k ∷ ks) some any = elim (cases_lt n (cluster_width k)) [
  | inl wide ↦ inr (omega (arith, wide, ap columns_of (begun-divided n k ks some wide), sum_by-cons cluster_width k []))
  | inr fits ↦ elim (cases_lt 0 (cluster_width k)) [
    | inl width ↦ inl (omega (arith, width, ap columns_of (ended-pass n k ks some fits), sum_by-cons cluster_width k (ended (n - cluster_width k) ks)))
    | inr none ↦
        let same : n - cluster_width k ≡ n = omega (arith, none) in
        elim (any-column n ks some (omega (arith, any, none, sum_by-cons cluster_width k ks))) [
          | inl e ↦ inl (omega (arith, e, ap columns_of (ended-pass n k ks some fits), sum_by-cons cluster_width k (ended (n - cluster_width k) ks), ap (λ m. columns_of (ended m ks)) same))
          | inr b ↦ inr (omega (arith, b, ap columns_of (begun-pass n k ks some), sum_by-cons cluster_width k (begun (n - cluster_width k) ks), ap (λ m. columns_of (begun m ks)) same))
        ]
  ]
]

-- an edge tells whether the text has a column after the place that it is counted from
pub column-before : {t : List ℕ} {here n : ℕ} {edge : Edge} → IsEdge t here n edge → 0 < n → nat_lt 0 (columns_of (clusters_from t here)) ≡ not (edge.before == n && edge.after == 0)
column-before {t} {here} {n} {edge} is some = elim (cases_lt 0 (columns_of ks)) [
  | inl any ↦ lt-ltb 0 (columns_of ks) any ∙ sym (with_any (any-column n ks some any))
  | inr none ↦ le-ltb 0 (columns_of ks) none ∙ sym (with_none none)
]
  where
    ks : List (List ℕ)
    ks = clusters_from t here

    with_any : (0 < columns_of (ended n ks)) ⊎ (n < columns_of (begun n ks)) → not (edge.before == n && edge.after == 0) ≡ true
    with_any (inl e) = ap (λ b. not (b && edge.after == 0)) (ne_eqb edge.before n (λ same. absurd (omega (arith, same, e, is.before, some))))
    with_any (inr b) = ap not (and_right (edge.before == n) (edge.after == 0) (ne_eqb edge.after 0 (λ same. absurd (omega (arith, same, b, is.after)))))

    with_none : columns_of ks ≤ 0 → not (edge.before == n && edge.after == 0) ≡ false
    with_none none =
        let sum : columns_of ks ≡ columns_of (ended n ks) + columns_of (clusters_from t edge.start.position) = ap columns_of is.rest ∙ sum_by-append cluster_width (ended n ks) (clusters_from t edge.start.position) in
        let full : edge.before ≡ n = omega (arith, none, sum, is.before) in
        let whole : edge.after ≡ 0 = omega (arith, none, begun-within n ks, is.after) in
        let first : (edge.before == n) ≡ true = elim (eqb_tells edge.before n) [ inl tells ↦ tells.0 | inr tells ↦ absurd (tells.1 full) ] in
        ap₂ (λ a b. not (a && b)) first (ap (λ m. m == 0) whole)

-- a text that has a column after an edge has more columns than there are before it
pub ended-rest : (n : ℕ) (ks rest : List (List ℕ)) → ks ≡ ended n ks ++ rest → 0 < columns_of rest → n < columns_of ks
ended-rest n [] rest split some = absurd (omega (arith, some, ap columns_of split))
ended-rest n (k ∷ ks) rest split some = elim (cases_lt 0 n) [
  | inl any ↦ elim (cases_lt n (cluster_width k)) [
    | inl wide ↦ omega (arith, wide, sum_by-cons cluster_width k ks)
    | inr fits ↦
        let left : ks ≡ ended (n - cluster_width k) ks ++ rest = ap (drop 1) (split ∙ ap (λ ls. ls ++ rest) (ended-pass n k ks any fits)) in
        omega (arith, fits, sum_by-cons cluster_width k ks, ended-rest (n - cluster_width k) ks rest left some)
  ]
  | inr none ↦
      let zero_is : n ≡ 0 = omega (arith, none) in
      omega (arith, zero_is, some, ap columns_of (split ∙ ap (λ m. ended m (k ∷ ks) ++ rest) zero_is))
]

-- a later edge, from an earlier one on
pub ended-later : (a e : ℕ) (ks rest : List (List ℕ)) → a ≤ e → ks ≡ ended a ks ++ rest → ended e ks ≡ ended a ks ++ ended (e - columns_of (ended a ks)) rest
ended-later a e [] rest ordered split = (let none : rest ≡ [] = sym split in ap (ended (e - 0)) (sym none))
ended-later a e (k ∷ ks) rest ordered split = elim (cases_lt 0 a) [
  | inl any ↦ elim (cases_lt a (cluster_width k)) [
    | inl wide ↦ whole (ended-stop a k ks wide)
    | inr fits ↦
        let w = cluster_width k in
        let passed = ended-pass a k ks any fits in
        let left : ks ≡ ended (a - w) ks ++ rest = ap (drop 1) (split ∙ ap (λ ls. ls ++ rest) passed) in
        let room : e - w - columns_of (ended (a - w) ks) ≡ e - columns_of (k ∷ ended (a - w) ks) = omega (arith, sum_by-cons cluster_width k (ended (a - w) ks)) in
        ended-pass e k ks (omega (arith, any, ordered)) (omega (arith, fits, ordered)) ∙ ap (λ ls. k ∷ ls) (ended-later (a - w) (e - w) ks rest (omega (arith, ordered)) left)
        ∙ ap (λ m. k ∷ ended (a - w) ks ++ ended m rest) room ∙ ap (λ ls. ls ++ ended (e - columns_of ls) rest) (sym passed)
  ]
  | inr none ↦ (let zero_is : a ≡ 0 = omega (arith, none) in whole (ap (λ m. ended m (k ∷ ks)) zero_is))
]
  where
    whole : ended a (k ∷ ks) ≡ [] → ended e (k ∷ ks) ≡ ended a (k ∷ ks) ++ ended (e - columns_of (ended a (k ∷ ks))) rest
    whole nothing =
        let all : k ∷ ks ≡ rest = split ∙ ap (λ ls. ls ++ rest) nothing in
        let room : e - columns_of [] ≡ e = omega arith in
        ap (ended e) all ∙ ap (λ n. ended n rest) (sym room) ∙ ap (λ ls. ls ++ ended (e - columns_of ls) rest) (sym nothing)

-- If the edge a divides a cluster in which the text ends before the edge e, that cluster is the first one of both.
pub ended-whole : (a e : ℕ) (ks : List (List ℕ)) → a ≤ e → bytes_of (ended e ks) < bytes_of (begun a ks) → (0 < a) × (bytes_of (ended e ks) ≡ bytes_of (ended a ks))
ended-whole a e [] ordered inside = absurd (omega (arith, inside))
ended-whole a e (k ∷ ks) ordered inside = elim (cases_lt 0 a) [
  | inl any ↦ elim (cases_lt a (cluster_width k)) [
    | inl wide ↦
        let begun_is = begun-divided a k ks any wide in
        elim (cases_lt e (cluster_width k)) [
          | inl wider ↦ (any, ap bytes_of (ended-stop e k ks wider ∙ sym (ended-stop a k ks wide)))
          | inr fits ↦ absurd (omega (arith, inside, ap bytes_of begun_is, bytes_of-append (k ∷ []) (ended (e - cluster_width k) ks), ap bytes_of (ended-pass e k ks (omega (arith, any, ordered)) fits)))
        ]
    | inr fits ↦
        let w = cluster_width k in
        let early = ap bytes_of (ended-pass a k ks any fits) ∙ bytes_of-append (k ∷ []) (ended (a - w) ks) in
        let late = ap bytes_of (ended-pass e k ks (omega (arith, any, ordered)) (omega (arith, fits, ordered))) ∙ bytes_of-append (k ∷ []) (ended (e - w) ks) in
        let more = ap bytes_of (begun-pass a k ks any) ∙ bytes_of-append (k ∷ []) (begun (a - w) ks) in
        let same = ended-whole (a - w) (e - w) ks (omega (arith, ordered)) (omega (arith, inside, late, more)) in
        (any, omega (arith, early, late, same.1))
  ]
  | inr none ↦ (let zero_is : a ≡ 0 = omega (arith, none) in absurd (omega (arith, inside, ap (λ m. bytes_of (begun m (k ∷ ks))) zero_is)))
]

-- an edge that divides no cluster
pub begun-whole : (n : ℕ) (ks : List (List ℕ)) → columns_of (begun n ks) ≤ n → bytes_of (begun n ks) ≡ bytes_of (ended n ks)
begun-whole n [] within = refl
begun-whole n (k ∷ ks) within = elim (cases_lt 0 n) [
  | inl any ↦
      let w = cluster_width k in
      let passed = begun-pass n k ks any in
      let wide = ap columns_of passed ∙ sum_by-cons cluster_width k (begun (n - w) ks) in
      let fits : w ≤ n = omega (arith, within, wide) in
      ap bytes_of passed ∙ bytes_of-append (k ∷ []) (begun (n - w) ks) ∙ ap (λ m. bytes_of (k ∷ []) + m) (begun-whole (n - w) ks (omega (arith, within, wide)))
      ∙ sym (ap bytes_of (ended-pass n k ks any fits) ∙ bytes_of-append (k ∷ []) (ended (n - w) ks))
  | inr none ↦ (let zero_is : n ≡ 0 = omega (arith, none) in ap (λ m. bytes_of (begun m (k ∷ ks))) zero_is ∙ sym (ap (λ m. bytes_of (ended m (k ∷ ks))) zero_is))
]

-- a byte has at most two columns
pub cluster_width-bound : (k : List ℕ) → cluster_width k ≤ 2 * length (encode_utf8_all k)
unfolding str_width
cluster_width-bound k = read-bound k

columns_of-bound : (ks : List (List ℕ)) → columns_of ks ≤ 2 * bytes_of ks
columns_of-bound [] = omega arith
columns_of-bound (k ∷ ks) = omega (arith, sum_by-cons cluster_width k ks, bytes_of-append (k ∷ []) ks, bytes_of-one k, cluster_width-bound k, columns_of-bound ks)

pub columns-bound : (x : List ℕ) → IsUtf8 x → columns x ≤ 2 * length x
columns-bound x utf8 = omega (arith, columns_of-bound (clusters x), ap length (clusters_after-bytes [] (chars x)), ap length (encodes-chars x utf8))

-- The places of edges, in order.

pub ended-begun : (n : ℕ) (ks : List (List ℕ)) → bytes_of (ended n ks) ≤ bytes_of (begun n ks)
ended-begun n [] = omega arith
ended-begun n (k ∷ ks) = elim (cases_lt 0 n) [
  | inl any ↦ elim (cases_lt n (cluster_width k)) [
    | inl wide ↦ omega (arith, ap bytes_of (ended-stop n k ks wide))
    | inr fits ↦
        let w = cluster_width k in
        omega (
          arith,
          ap bytes_of (ended-pass n k ks any fits),
          ap bytes_of (begun-pass n k ks any),
          bytes_of-append (k ∷ []) (ended (n - w) ks),
          bytes_of-append (k ∷ []) (begun (n - w) ks),
          ended-begun (n - w) ks,
        )
  ]
  | inr none ↦ (let zero_is : n ≡ 0 = omega (arith, none) in omega (arith, ap (λ m. bytes_of (ended m (k ∷ ks))) zero_is))
]

pub ended-front : (n : ℕ) (ks : List (List ℕ)) → ks ≡ ended n ks ++ drop (length (ended n ks)) ks
ended-front n [] = refl
ended-front n (k ∷ ks) = elim (cases_lt 0 n) [
  | inl any ↦ elim (cases_lt n (cluster_width k)) [
    | inl wide ↦ sym (ap (λ ls. ls ++ drop (length ls) (k ∷ ks)) (ended-stop n k ks wide))
    | inr fits ↦
        let left = n - cluster_width k in
        ap (λ ls. k ∷ ls) (ended-front left ks) ∙ sym (ap (λ ls. ls ++ drop (length ls) (k ∷ ks)) (ended-pass n k ks any fits))
  ]
  | inr none ↦ (let zero_is : n ≡ 0 = omega (arith, none) in sym (ap (λ m. ended m (k ∷ ks) ++ drop (length (ended m (k ∷ ks))) (k ∷ ks)) zero_is))
]

pub ended-bytes : (n : ℕ) (ks : List (List ℕ)) → bytes_of (ended n ks) ≤ bytes_of ks
ended-bytes n ks = omega (arith, ap bytes_of (ended-front n ks), bytes_of-append (ended n ks) (drop (length (ended n ks)) ks))

pub ended-ordered : (a e : ℕ) (ks : List (List ℕ)) → a ≤ e → bytes_of (ended a ks) ≤ bytes_of (ended e ks)
ended-ordered a e ks ordered =
    let rest = drop (length (ended a ks)) ks in
    omega (arith, ap bytes_of (ended-later a e ks rest ordered (ended-front a ks)), bytes_of-append (ended a ks) (ended (e - columns_of (ended a ks)) rest))

-- The clusters around the edges.

pub begun-covers : (n : ℕ) (ks : List (List ℕ)) → n ≤ columns_of ks → n ≤ columns_of (begun n ks)
begun-covers n [] covered = covered
begun-covers n (k ∷ ks) covered = elim (cases_lt 0 n) [
  | inl any ↦
      let w = cluster_width k in
      let left : n - w ≤ columns_of ks = omega (arith, covered, sum_by-cons cluster_width k ks) in
      omega (arith, ap columns_of (begun-pass n k ks any), sum_by-cons cluster_width k (begun (n - w) ks), begun-covers (n - w) ks left)
  | inr none ↦ omega (arith, none)
]

pub begun-front : (n : ℕ) (ks : List (List ℕ)) → ks ≡ begun n ks ++ drop (length (begun n ks)) ks
begun-front n [] = refl
begun-front n (k ∷ ks) = elim (cases_lt 0 n) [
  | inl any ↦ ap (λ ls. k ∷ ls) (begun-front (n - cluster_width k) ks) ∙ sym (ap (λ ls. ls ++ drop (length ls) (k ∷ ks)) (begun-pass n k ks any))
  | inr none ↦ (let zero_is : n ≡ 0 = omega (arith, none) in sym (ap (λ m. begun m (k ∷ ks) ++ drop (length (begun m (k ∷ ks))) (k ∷ ks)) zero_is))
]

pub begun-ended : (a e : ℕ) (ks : List (List ℕ)) → a ≤ e → bytes_of (begun a ks) ≤ bytes_of (ended e ks) → ended e ks ≡ begun a ks ++ drop (length (begun a ks)) (ended e ks)
begun-ended a e [] ordered apart = refl
begun-ended a e (k ∷ ks) ordered apart = elim (cases_lt 0 a) [
  | inl any ↦
      let w = cluster_width k in
      let begun_is = begun-pass a k ks any in
      let more = ap bytes_of begun_is ∙ bytes_of-append (k ∷ []) (begun (a - w) ks) in
      elim (cases_lt e w) [
        | inl wide ↦ absurd (omega (arith, apart, wide, more, ap bytes_of (ended-stop e k ks wide), bytes_of-one k, cluster_width-bound k))
        | inr fits ↦
            let ended_is = ended-pass e k ks (omega (arith, any, ordered)) fits in
            let late = ap bytes_of ended_is ∙ bytes_of-append (k ∷ []) (ended (e - w) ks) in
            ended_is ∙ ap (λ ls. k ∷ ls) (begun-ended (a - w) (e - w) ks (omega (arith, ordered)) (omega (arith, apart, more, late)))
            ∙ sym (ap₂ (λ ls es. ls ++ drop (length ls) es) begun_is ended_is)
      ]
  | inr none ↦ (let zero_is : a ≡ 0 = omega (arith, none) in sym (ap (λ m. begun m (k ∷ ks) ++ drop (length (begun m (k ∷ ks))) (ended e (k ∷ ks))) zero_is))
]

-- what follows an edge begins with a cluster that it divides, or the edge divides none
abbrev pub Stops : ℕ → List (List ℕ) → Type 0
Stops left ks = (left ≡ 0) ⊎ ((k : List ℕ) × (ls : List (List ℕ)) × (ks ≡ k ∷ ls) × (left < cluster_width k))

pub ended-stops : (n : ℕ) (ks : List (List ℕ)) → 0 < columns_of (drop (length (ended n ks)) ks) → Stops (n - columns_of (ended n ks)) (drop (length (ended n ks)) ks)
ended-stops n [] some = absurd (omega (arith, some))
ended-stops n (k ∷ ks) some = elim (cases_lt 0 n) [
  | inl any ↦ elim (cases_lt n (cluster_width k)) [
    | inl wide ↦
        let first : Stops (n - columns_of []) (k ∷ ks) = inr (k, ks, refl, omega (arith, wide)) in
        subst (λ ls. Stops (n - columns_of ls) (drop (length ls) (k ∷ ks))) (sym (ended-stop n k ks wide)) first
    | inr fits ↦
        let w = cluster_width k in
        let es = ended (n - w) ks in
        let is = ended-pass n k ks any fits in
        let inner = ended-stops (n - w) ks (subst (λ ls. 0 < columns_of (drop (length ls) (k ∷ ks))) is some) in
        let count : n - w - columns_of es ≡ n - columns_of (k ∷ es) = omega (arith, sum_by-cons cluster_width k es) in
        subst (λ ls. Stops (n - columns_of ls) (drop (length ls) (k ∷ ks))) (sym is) (subst (λ m. Stops m (drop (length es) ks)) count inner)
  ]
  | inr none ↦ inl (omega (arith, none))
]

-- an edge that divides a cluster is past the beginning of that cluster
pub begun-wider : (n : ℕ) (ks : List (List ℕ)) → n < columns_of (begun n ks) → (0 < n) × (bytes_of (ended n ks) < bytes_of (begun n ks))
begun-wider n [] wide = absurd (omega (arith, wide))
begun-wider n (k ∷ ks) wide = elim (cases_lt 0 n) [
  | inl any ↦ elim (cases_lt n (cluster_width k)) [
    | inl divided ↦ (
      any,
      omega (arith, divided, ap bytes_of (ended-stop n k ks divided), ap bytes_of (begun-divided n k ks any divided), bytes_of-one k, cluster_width-bound k),
    )
    | inr fits ↦
        let w = cluster_width k in
        let more = ap columns_of (begun-pass n k ks any) ∙ sum_by-cons cluster_width k (begun (n - w) ks) in
        let inner = begun-wider (n - w) ks (omega (arith, wide, more, fits)) in (
          any,
          omega (
            arith,
            inner.1,
            ap bytes_of (ended-pass n k ks any fits),
            ap bytes_of (begun-pass n k ks any),
            bytes_of-append (k ∷ []) (ended (n - w) ks),
            bytes_of-append (k ∷ []) (begun (n - w) ks),
          ),
        )
  ]
  | inr none ↦ (let zero_is : n ≡ 0 = omega (arith, none) in absurd (omega (arith, wide, ap (λ m. columns_of (begun m (k ∷ ks))) zero_is)))
]

-- a later edge in the cluster that the edge a divides
pub ended-inside : (a e : ℕ) (ks : List (List ℕ)) → a ≤ e → bytes_of (ended e ks) < bytes_of (begun a ks) → e ≤ columns_of (begun a ks)
ended-inside a e [] ordered inside = absurd (omega (arith, inside))
ended-inside a e (k ∷ ks) ordered inside = elim (cases_lt 0 a) [
  | inl any ↦
      let w = cluster_width k in
      let begun_is = begun-pass a k ks any in
      let wide = ap columns_of begun_is ∙ sum_by-cons cluster_width k (begun (a - w) ks) in
      elim (cases_lt e w) [
        | inl wider ↦ omega (arith, wider, wide)
        | inr fits ↦
            let ended_is = ended-pass e k ks (omega (arith, any, ordered)) fits in
            let late = ap bytes_of ended_is ∙ bytes_of-append (k ∷ []) (ended (e - w) ks) in
            let more = ap bytes_of begun_is ∙ bytes_of-append (k ∷ []) (begun (a - w) ks) in
            omega (arith, fits, wide, ended-inside (a - w) (e - w) ks (omega (arith, ordered)) (omega (arith, inside, late, more)))
      ]
  | inr none ↦ (let zero_is : a ≡ 0 = omega (arith, none) in absurd (omega (arith, inside, ap (λ m. bytes_of (begun m (k ∷ ks))) zero_is)))
]

-- the last of the clusters that begin before an edge has two or more columns, if the edge divides it
pub begun-last : (n : ℕ) (ks : List (List ℕ)) → n < columns_of (begun n ks) → (fs : List (List ℕ)) × (k : List ℕ) × (begun n ks ≡ fs ++ k ∷ []) × (2 ≤ cluster_width k)
begun-last n [] divides = absurd (omega (arith, divides))
begun-last n (k ∷ ks) divides = elim (cases_lt 0 n) [
  | inr none ↦ absurd (let zero_is : n ≡ 0 = omega (arith, none) in omega (arith, divides, ap columns_of (ap (λ m. begun m (k ∷ ks)) zero_is)))
  | inl any ↦ elim (cases_lt n (cluster_width k)) [
    | inl wide ↦ ([], k, begun-divided n k ks any wide, omega (arith, any, wide))
    | inr fits ↦
        let pass = begun-pass n k ks any in
        let rest = begun (n - cluster_width k) ks in
        let more = begun-last (n - cluster_width k) ks (omega (arith, divides, fits, ap columns_of pass, sum_by-cons cluster_width k rest)) in
        (k ∷ more.0, more.1, pass ∙ ap (λ ls. k ∷ ls) more.2, more.3)
  ]
]
