-- The clusters of the beginning of a text that ends between two clusters: the first ones of the text.
use Rattle.std.proofs.Common.{◌≡◌, ◌≢◌, ℕ, zero, suc, ◌+◌, ◌-◌, ◌<◌, ◌≤◌, ◌⊎◌, inl, inr, Bool, true, false, List, [], ◌∷◌, ◌++◌, length, take, drop, flat_map, encode_utf8_all, refl, sym, ◌∙◌, ap, arith, append_assoc, take_all, take_at, take-add, take-append-drop, length-append, if◌then◌else◌}
use Rattle.std.specs.Str.{chars, IsUtf8, IsCharBoundary}
use Rattle.std.proofs.lemmas.Bool.{cases_Bool, cases_lt}
use Rattle.std.proofs.lemmas.Grind.{flat_map-append}
use Rattle.std.proofs.lemmas.List.Sums.{sum_by-append}
use Rattle.std.proofs.lemmas.Str.{chars_from_encodes, chars-append, encodes-append, encodes-chars, IsUtf8-take}
use Rattle.ansi_items.specs.Plain.{plain}
use Rattle.ansi_items.proofs.Utf8Lemmas.{IsUtf8-plain}
use Rattle.ansi_safe.specs.Cells.{cell, cell_char}
use Rattle.ansi_safe.proofs.CellLemmas.{plain-cell}
use Rattle.ansi_safe.proofs.CellTextLemmas.{IsUtf8-cell}
use Rattle.unicode_segmentation.specs.Grapheme.{is_grapheme_break}
use Rattle.unicode_segmentation.specs.Segments.{prepend}
use Rattle.ansi_clusters.specs.Columns.{clusters, cluster_width, columns_of, columns, bytes_of, shown, FitsUpTo, ShowsUpTo, IsClusterBoundary}
use Rattle.ansi_clusters.specs.Walks.{clusters_after}
use Rattle.ansi_clusters.proofs.ClusterLemmas.{cluster-begins, cluster-ends, clusters-none}
use Rattle.ansi_clusters.proofs.LineLawLemmas.{boundary_between}

-- the characters before a place, the nearest first, and those that follow them
abbrev pub reversed_before : List ℕ → List ℕ → List ℕ
reversed_before before [] = before
reversed_before before (c ∷ cs) = reversed_before (c ∷ before) cs

-- A break depends only on the characters before it and on the next character.

pub next-alone : (c : ℕ) (before : List ℕ) (d : ℕ) (u v : List ℕ) → is_grapheme_break true (c ∷ before) (d ∷ u) ≡ is_grapheme_break true (c ∷ before) (d ∷ v)
unfolding is_grapheme_break
next-alone c before d u v = refl

pub breaks-last : (c : ℕ) (before : List ℕ) → is_grapheme_break true (c ∷ before) [] ≡ true
unfolding is_grapheme_break
breaks-last c before = refl

breaks-front : (c : ℕ) (before cs front rest : List ℕ) → cs ≡ front ++ rest → is_grapheme_break true (c ∷ before) cs ≡ true → is_grapheme_break true (c ∷ before) front ≡ true
breaks-front c before cs [] rest all breaks = breaks-last c before
breaks-front c before cs (d ∷ front) rest all breaks = next-alone c before d front (front ++ rest) ∙ ap (is_grapheme_break true (c ∷ before)) (sym all) ∙ breaks

-- a cluster that goes on
pub cluster-joins : (before : List ℕ) (c : ℕ) (cs : List ℕ) → is_grapheme_break true (c ∷ before) cs ≡ false → clusters_after before (c ∷ cs) ≡ prepend (c ∷ []) (clusters_after (c ∷ before) cs)
cluster-joins before c cs joins = cluster-begins before c cs ∙ ap (λ b. if b then (c ∷ []) ∷ clusters_after (c ∷ before) cs else prepend (c ∷ []) (clusters_after (c ∷ before) cs)) joins

pub cluster-alone : (before : List ℕ) (c : ℕ) (cs : List ℕ) → is_grapheme_break true (c ∷ before) cs ≡ true → clusters_after before (c ∷ cs) ≡ (c ∷ []) ∷ clusters_after (c ∷ before) cs
cluster-alone before c cs breaks = cluster-begins before c cs ∙ cluster-ends (c ∷ []) (c ∷ before) cs breaks

-- if a character follows, there is a cluster
pub clusters-some : (before : List ℕ) (c : ℕ) (cs : List ℕ) → (k : List ℕ) × (ks : List (List ℕ)) × (clusters_after before (c ∷ cs) ≡ k ∷ ks)
clusters-some before c cs = begins (is_grapheme_break true (c ∷ before) cs) (clusters_after (c ∷ before) cs) (cluster-begins before c cs)
  where
    begins : (b : Bool) (ks : List (List ℕ)) {all : List (List ℕ)} → all ≡ (if b then (c ∷ []) ∷ ks else prepend (c ∷ []) ks) → (l : List ℕ) × (ls : List (List ℕ)) × (all ≡ l ∷ ls)
    begins true ks e = (c ∷ [], ks, e)
    begins false [] e = (c ∷ [], [], e)
    begins false (k ∷ ks) e = (c ∷ k, ks, e)

-- The first n clusters of the characters cs, after others, are those of `front` alone, and the others are those of `rest`.
pub record IsClusterFront (before cs : List ℕ) (n : ℕ) : Type 0 where
  pub front : List ℕ
  pub rest : List ℕ
  pub all : cs ≡ front ++ rest
  pub first : clusters_after before front ≡ take n (clusters_after before cs)
  pub others : clusters_after (reversed_before before front) rest ≡ drop n (clusters_after before cs)
  pub breaks : (front ≡ []) ⊎ (is_grapheme_break true (reversed_before before front) rest ≡ true)

breaks-after : (c : ℕ) (before cs front rest : List ℕ) → is_grapheme_break true (c ∷ before) cs ≡ true → cs ≡ front ++ rest → (front ≡ []) ⊎ (is_grapheme_break true (reversed_before (c ∷ before) front) rest ≡ true)
    → is_grapheme_break true (reversed_before (c ∷ before) front) rest ≡ true
breaks-after c before cs [] rest breaks all more = ap (is_grapheme_break true (c ∷ before)) (sym all) ∙ breaks
breaks-after c before cs (d ∷ front) rest breaks all (inl none) = absurd (cc)
breaks-after c before cs (d ∷ front) rest breaks all (inr more) = more

no_clusters : (before : List ℕ) (k : List ℕ) (ks : List (List ℕ)) → clusters_after before [] ≢ k ∷ ks
no_clusters before k ks some = (let none = sym (clusters-none before) ∙ some in cc)

-- a cluster that goes on takes the first character of the front
front-joins : (before : List ℕ) (c : ℕ) (cs : List ℕ) (n : ℕ) → is_grapheme_break true (c ∷ before) cs ≡ false → (k : List ℕ) (ks : List (List ℕ)) → clusters_after (c ∷ before) cs ≡ k ∷ ks
    → IsClusterFront (c ∷ before) cs (suc n) → IsClusterFront before (c ∷ cs) (suc n)
front-joins before c cs n joins k ks some more = build more.front more.rest more.all more.first more.others more.breaks
  where
    whole : clusters_after before (c ∷ cs) ≡ (c ∷ k) ∷ ks
    whole = cluster-joins before c cs joins ∙ ap (prepend (c ∷ [])) some

    build : (front rest : List ℕ) → cs ≡ front ++ rest → clusters_after (c ∷ before) front ≡ take (suc n) (clusters_after (c ∷ before) cs)
        → clusters_after (reversed_before (c ∷ before) front) rest ≡ drop (suc n) (clusters_after (c ∷ before) cs)
        → (front ≡ []) ⊎ (is_grapheme_break true (reversed_before (c ∷ before) front) rest ≡ true) → IsClusterFront before (c ∷ cs) (suc n)
    build [] rest all first others breaks = absurd (no_clusters (c ∷ before) k (take n ks) (first ∙ ap (take (suc n)) some))
    build (d ∷ front) rest all first others (inl none) = absurd (cc)
    build (d ∷ front) rest all first others (inr breaks) = record {
      front = c ∷ d ∷ front;
      rest = rest;
      all = ap (λ u. c ∷ u) all;
      first = cluster-joins before c (d ∷ front) (next-alone c before d front (front ++ rest) ∙ ap (is_grapheme_break true (c ∷ before)) (sym all) ∙ joins)
          ∙ ap (prepend (c ∷ [])) (first ∙ ap (take (suc n)) some) ∙ ap (take (suc n)) (sym whole);
      others = others ∙ ap (drop (suc n)) some ∙ ap (drop (suc n)) (sym whole);
      breaks = inr breaks;
    }

pub IsClusterFront-all : (before cs : List ℕ) (n : ℕ) → IsClusterFront before cs n
IsClusterFront-all before cs zero = record { front = []; rest = cs; all = refl; first = clusters-none before; others = refl; breaks = inl refl }
IsClusterFront-all before [] (suc n) = record {
  front = [];
  rest = [];
  all = refl;
  first = clusters-none before ∙ ap (take (suc n)) (sym (clusters-none before));
  others = clusters-none before ∙ ap (drop (suc n)) (sym (clusters-none before));
  breaks = inl refl;
}
IsClusterFront-all before (c ∷ cs) (suc n) = elim (cases_Bool (is_grapheme_break true (c ∷ before) cs)) [
  | inl breaks ↦ (
      let more = IsClusterFront-all (c ∷ before) cs n in
      let whole = cluster-alone before c cs breaks in
      record {
        front = c ∷ more.front;
        rest = more.rest;
        all = ap (λ u. c ∷ u) more.all;
        first = cluster-alone before c more.front (breaks-front c before cs more.front more.rest more.all breaks)
            ∙ ap (λ ks. (c ∷ []) ∷ ks) more.first ∙ ap (take (suc n)) (sym whole);
        others = more.others ∙ ap (drop (suc n)) (sym whole);
        breaks = inr (breaks-after c before cs more.front more.rest breaks more.all more.breaks);
      })
  | inr joins ↦ goes_on cs joins (IsClusterFront-all (c ∷ before) cs (suc n))
]
  where
    goes_on : (ds : List ℕ) → is_grapheme_break true (c ∷ before) ds ≡ false → IsClusterFront (c ∷ before) ds (suc n) → IsClusterFront before (c ∷ ds) (suc n)
    goes_on [] joins more = absurd (let last = sym (breaks-last c before) ∙ joins in cc)
    goes_on (d ∷ ds) joins more = (let some = clusters-some (c ∷ before) d ds in front-joins before c (d ∷ ds) n joins some.0 some.1 some.2 more)

-- clusters spell their characters

prepend-spells : (part : List ℕ) (ks : List (List ℕ)) → flat_map encode_utf8_all (prepend part ks) ≡ encode_utf8_all part ++ flat_map encode_utf8_all ks
prepend-spells part [] = refl
prepend-spells part (k ∷ ks) = ap (λ u. u ++ flat_map encode_utf8_all ks) (encodes-append part k) ∙ append_assoc (encode_utf8_all part) (encode_utf8_all k) (flat_map encode_utf8_all ks)

pub clusters_after-bytes : (before cs : List ℕ) → flat_map encode_utf8_all (clusters_after before cs) ≡ encode_utf8_all cs
clusters_after-bytes before [] = ap (flat_map encode_utf8_all) (clusters-none before)
clusters_after-bytes before (c ∷ cs) = elim (cases_Bool (is_grapheme_break true (c ∷ before) cs)) [
  | inl breaks ↦ ap (flat_map encode_utf8_all) (cluster-alone before c cs breaks) ∙ ap (λ u. encode_utf8_all (c ∷ []) ++ u) (clusters_after-bytes (c ∷ before) cs) ∙ sym (encodes-append (c ∷ []) cs)
  | inr joins ↦ ap (flat_map encode_utf8_all) (cluster-joins before c cs joins) ∙ prepend-spells (c ∷ []) (clusters_after (c ∷ before) cs)
      ∙ ap (λ u. encode_utf8_all (c ∷ []) ++ u) (clusters_after-bytes (c ∷ before) cs) ∙ sym (encodes-append (c ∷ []) cs)
]

module _ (x : List ℕ) (utf8 : IsUtf8 x) (n : ℕ) where
  abbrev pub front_is : IsClusterFront [] (chars x) n
  front_is = IsClusterFront-all [] (chars x) n

  abbrev front : List ℕ
  front = front_is.front

  text : x ≡ encode_utf8_all front ++ encode_utf8_all front_is.rest
  text = sym (encodes-chars x utf8) ∙ ap encode_utf8_all front_is.all ∙ encodes-append front front_is.rest

  front-bytes : flat_map encode_utf8_all (take n (clusters x)) ≡ encode_utf8_all front
  front-bytes = ap (flat_map encode_utf8_all) (sym front_is.first) ∙ clusters_after-bytes [] front

  pub front-text : take (bytes_of (take n (clusters x))) x ≡ encode_utf8_all front
  front-text = ap (λ i. take i x) (ap length front-bytes) ∙ ap (take (length (encode_utf8_all front))) text ∙ take_at (encode_utf8_all front) (encode_utf8_all front_is.rest) _ refl

  pub front-chars : front ≡ chars (take (bytes_of (take n (clusters x))) x)
  front-chars =
      let end = boundary_between x utf8 (take n (clusters x)) (drop n (clusters x)) (sym (take-append-drop n (clusters x))) in
      chars_from_encodes front _ (IsUtf8-take x _ utf8 end) (sym front-text)

  -- the clusters of a text up to a place between two of them are the first ones of the text
  pub clusters-front : clusters (take (bytes_of (take n (clusters x))) x) ≡ take n (clusters x)
  clusters-front = ap (clusters_after []) (sym front-chars) ∙ front_is.first

  pub columns-front : columns (take (bytes_of (take n (clusters x))) x) ≡ columns_of (take n (clusters x))
  columns-front = ap columns_of clusters-front

-- more clusters have no fewer bytes and no fewer columns

more_clusters : (i j : ℕ) (ks : List (List ℕ)) → i ≤ j → take j ks ≡ take i ks ++ take (j - i) (drop i ks)
more_clusters i j ks le = (let e : j ≡ i + (j - i) = omega arith in ap (λ n. take n ks) e ∙ take-add i (j - i) ks)

bytes-more : (i j : ℕ) (ks : List (List ℕ)) → i ≤ j → bytes_of (take i ks) ≤ bytes_of (take j ks)
bytes-more i j ks le =
    let more = take (j - i) (drop i ks) in
    omega (arith, ap bytes_of (more_clusters i j ks le), ap length (flat_map-append encode_utf8_all (take i ks) more), length-append (flat_map encode_utf8_all (take i ks)) (flat_map encode_utf8_all more))

columns-more : (i j : ℕ) (ks : List (List ℕ)) → i ≤ j → columns_of (take i ks) ≤ columns_of (take j ks)
columns-more i j ks le =
    let more = take (j - i) (drop i ks) in
    omega (arith, ap columns_of (more_clusters i j ks le), sum_by-append cluster_width (take i ks) more)

pub fits-within : (x : List ℕ) (width end : ℕ) → IsUtf8 x → FitsUpTo x width end → columns (take end x) ≤ width
fits-within x width end utf8 fit = omega (arith, fit.fits, ap (λ i. columns (take i x)) fit.boundary, columns-front x utf8 fit.count)

pub fits-greatest : (x : List ℕ) (width end later : ℕ) → IsUtf8 x → FitsUpTo x width end → IsClusterBoundary x later → end < later → width < columns (take later x)
fits-greatest x width end later utf8 fit boundary less =
    let ks = clusters x in
    let n = boundary.0 in
    let ahead : fit.count < n = elim (cases_lt fit.count n) [
      | inl lt ↦ lt
      | inr le ↦ absurd (omega (arith, less, fit.boundary, boundary.1, bytes-more n fit.count ks le))
    ] in
    let inside : fit.count < length ks = elim (cases_lt fit.count (length ks)) [
      | inl lt ↦ lt
      | inr le ↦ absurd (omega (arith, less, fit.boundary, boundary.1, ap bytes_of (take_all fit.count ks le ∙ sym (take_all n ks (omega (arith, le, ahead))))))
    ] in
    omega (arith, fit.greatest inside, columns-more (fit.count + 1) n ks (omega (arith, ahead)), ap (λ i. columns (take i x)) boundary.1, columns-front x utf8 n)

-- ---- the same of what is shown

pub shown-front : (t : List ℕ) (n : ℕ) → IsUtf8 t → IsCharBoundary (plain t) n → plain (cell t) ≡ shown (take n (plain t)) ++ shown (drop n (plain t))
shown-front t n utf8 boundary =
    let x = plain t in
    let front = flat_map cell_char (chars (take n x)) in
    let rest = flat_map cell_char (chars (drop n x)) in
    plain-cell t utf8 ∙ ap (λ y. encode_utf8_all (flat_map cell_char (chars y))) (sym (take-append-drop n x))
    ∙ ap (λ cs. encode_utf8_all (flat_map cell_char cs)) (chars-append (take n x) (drop n x) (IsUtf8-take x n (IsUtf8-plain t utf8) boundary))
    ∙ ap encode_utf8_all (flat_map-append cell_char (chars (take n x)) (chars (drop n x))) ∙ encodes-append front rest

pub shown-taken : (t : List ℕ) (n : ℕ) → IsUtf8 t → IsCharBoundary (plain t) n → take (length (shown (take n (plain t)))) (plain (cell t)) ≡ shown (take n (plain t))
shown-taken t n utf8 boundary =
    (let k = length (shown (take n (plain t))) in ap (take k) (shown-front t n utf8 boundary) ∙ take_at (shown (take n (plain t))) (shown (drop n (plain t))) k refl)

cell_utf8 : (t : List ℕ) → IsUtf8 t → IsUtf8 (plain (cell t))
cell_utf8 t utf8 = IsUtf8-plain (cell t) (IsUtf8-cell t utf8)

pub shown-within : (t : List ℕ) (width end : ℕ) → IsUtf8 t → IsCharBoundary (plain t) end → ShowsUpTo t width end → columns (shown (take end (plain t))) ≤ width
shown-within t width end utf8 boundary fit =
    omega (arith, fits-within (plain (cell t)) width (length (shown (take end (plain t)))) (cell_utf8 t utf8) fit.fits, ap columns (shown-taken t end utf8 boundary))

pub shown-greatest : (t : List ℕ) (width end later : ℕ) → IsUtf8 t → IsCharBoundary (plain t) later → ShowsUpTo t width end → end < later → IsClusterBoundary (plain (cell t)) (length (shown (take later (plain t))))
    → width < columns (shown (take later (plain t)))
shown-greatest t width end later utf8 boundary fit less cluster =
    omega (
      arith,
      fits-greatest (plain (cell t)) width (length (shown (take end (plain t)))) (length (shown (take later (plain t)))) (cell_utf8 t utf8) fit.fits cluster (fit.greatest later boundary less),
      ap columns (shown-taken t later utf8 boundary),
    )
