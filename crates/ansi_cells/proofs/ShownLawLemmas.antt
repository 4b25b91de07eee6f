-- The display width of truncated and padded texts.
use Rattle.std.proofs.Common.{◌≡◌, ℕ, suc, zero, ◌+◌, ◌-◌, ◌<◌, ◌≤◌, min, max, Bool, true, false, not, inl, inr, List, [], ◌∷◌, ◌++◌, length, map, flat_map, take, drop, take-append-drop, nat_le, encode_utf8_all, if◌then◌else◌, IsTrue, refl, sym, ◌∙◌, ap, ap₂, subst, arith, append-nil, length-append, length-take-le, take_all, leb-true, leb-false}
use Rattle.std.specs.List.{list_all}
use Rattle.std.specs.Str.{byte, chars, IsUtf8, IsCharBoundary}
use Rattle.std.proofs.lemmas.Bool.{cases_lt, and_parts, and_from, not-true, le-leb, lt-leb}
use Rattle.std.proofs.lemmas.Bool.Decides.{nat_tests}
use Rattle.std.proofs.lemmas.List.{length-replicate}
use Rattle.std.proofs.lemmas.List.Sums.{sum_by-append, sum_by-cons}
use Rattle.std.proofs.lemmas.List.Folds.{list_all-append}
use Rattle.std.proofs.lemmas.Str.{chars-nil, chars-IsAscii, encode_ascii, encodes-chars, IsUtf8-nil, IsUtf8-take, IsUtf8-append, IsUtf8-from_ascii}
use Rattle.std.proofs.lemmas.Str.Ascii.{IsAscii-from_all}
use Rattle.unicode_width.proofs.Rules.{str_width-printable}
use Rattle.ansi_items.specs.Plain.{plain, is_whole}
use Rattle.ansi_items.proofs.Utf8Lemmas.{IsUtf8-plain}
use Rattle.ansi_search.proofs.SliceLemmas.{list_all-parts, take-append}
use Rattle.ansi_cells.specs.declared.shown.Alignment.{Alignment}
use Rattle.ansi_clusters.specs.Columns.{clusters, cluster_width, columns_of, columns, bytes_of, FitsUpTo, IsClusterBoundary, fitting_end}
use Rattle.ansi_cells.specs.Shown.{has_tail, truncated_end, truncated, missing, before_text, padded}
use Rattle.ansi_clusters.specs.Lines.{blanks}
use Rattle.ansi_clusters.specs.Walks.{clusters_after}
use Rattle.ansi_clusters.proofs.AsciiLemmas.{columns-printable, is_printable, breaks-between, All-printable_is_ascii}
use Rattle.ansi_clusters.proofs.ClusterLemmas.{cluster-begins, cluster-ends, cluster-last, clusters-none}
use Rattle.ansi_clusters.proofs.ClusterLawLemmas.{fits-within, clusters_after-bytes}
use Rattle.ansi_clusters.proofs.ColumnLemmas.{bytes_of-append}
use Rattle.ansi_clusters.proofs.LineLawLemmas.{boundary_between}
use Rattle.ansi_cells.proofs.LinkedLawLemmas.{truncated-plain, padded-plain}
use Rattle.ansi_cells.proofs.ShownLemmas.{before-within}
use Rattle.ansi_cells.proofs.BreakLawLemmas.{clusters-add_up, columns-add_up}

-- ---- the width of a truncated text

-- these clusters fit
record IsCount (width : ℕ) (ks : List (List ℕ)) : Type 0 where
  count : ℕ
  boundary : fitting_end width ks ≡ bytes_of (take count ks)
  fits : columns_of (take count ks) ≤ width
  greatest : count < length ks → width < columns_of (take (count + 1) ks)

IsCount-all : (width : ℕ) (ks : List (List ℕ)) → IsCount width ks
IsCount-all width [] = record { count = 0; boundary = refl; fits = omega arith; greatest = λ less. absurd (omega (arith, less)) }
IsCount-all width (k ∷ ks) =
    let rest = fitting_end (width - cluster_width k) ks in
    let either : (b : Bool) → nat_le (cluster_width k) width ≡ b → fitting_end width (k ∷ ks) ≡ (if b then length (encode_utf8_all k) + rest else 0) = λ b is. ap (λ b. if b then length (encode_utf8_all k) + rest else 0) is in
    elim (cases_lt width (cluster_width k)) [
      | inl wide ↦ record {
        count = 0;
        boundary = either false (lt-leb (cluster_width k) width wide);
        fits = omega arith;
        greatest = λ less. omega (arith, wide, sum_by-cons cluster_width k []);
      }
      | inr room ↦ (
          let more = IsCount-all (width - cluster_width k) ks in
          let next : suc more.count + 1 ≡ suc (more.count + 1) = omega arith in
          record {
            count = suc more.count;
            boundary = either true (le-leb (cluster_width k) width room) ∙ ap (λ n. length (encode_utf8_all k) + n) more.boundary
                ∙ sym (length-append (encode_utf8_all k) (flat_map encode_utf8_all (take more.count ks)));
            fits = omega (arith, room, more.fits, sum_by-cons cluster_width k (take more.count ks));
            greatest = λ less. omega (arith, room, more.greatest (omega (arith, less)), ap (λ n. columns_of (take n (k ∷ ks))) next, sum_by-cons cluster_width k (take (more.count + 1) ks));
          })
    ]

pub fitting_end-is : (x : List ℕ) (width : ℕ) → FitsUpTo x width (fitting_end width (clusters x))
fitting_end-is x width = (let is = IsCount-all width (clusters x) in record { count = is.count; boundary = is.boundary; fits = is.fits; greatest = is.greatest })

module _ (x y : List ℕ) (left : IsUtf8 x) (right : IsUtf8 y) (width : ℕ) where
  abbrev pub end : ℕ
  end = fitting_end width (clusters x)

  pub end_boundary : IsCharBoundary x end
  end_boundary =
      let is = IsCount-all width (clusters x) in
      subst (IsCharBoundary x) (sym is.boundary) (boundary_between x left (take is.count (clusters x)) (drop is.count (clusters x)) (sym (take-append-drop is.count (clusters x))))

  fitting-followed : IsClusterBoundary (take end x ++ y) end → columns (take end x ++ y) ≤ width + columns y
  fitting-followed at =
      let size : length (take end x) ≡ end = length-take-le end x end_boundary.0 in
      let sum = columns-add_up (take end x) y (IsUtf8-take x end left end_boundary) right (subst (IsClusterBoundary (take end x ++ y)) (sym size) at) in
      omega (arith, sum, fits-within x width end left (fitting_end-is x width))

module _ (t : List ℕ) (width : ℕ) (tail : List ℕ) (utf8 : IsUtf8 t) (tail_utf8 : IsUtf8 tail) where
  within-width : (b : Bool) → b ≡ has_tail t width tail → (let end = fitting_end (if b then width - columns (plain tail) else width) (clusters (plain t)) in
      IsClusterBoundary (take end (plain t) ++ (if b then plain tail else [])) end → columns (take end (plain t) ++ (if b then plain tail else [])) ≤ width)
  within-width true is = λ at.
      let narrow : columns (plain tail) ≤ width = leb-true (columns (plain tail)) width (and_parts (not (nat_le (columns (plain t)) width)) (nat_le (columns (plain tail)) width) (sym is)).1 in
      let bound = fitting-followed (plain t) (plain tail) (IsUtf8-plain t utf8) (IsUtf8-plain tail tail_utf8) (width - columns (plain tail)) at in
      omega (arith, narrow, bound)
  within-width false is = λ at.
      let bound = fitting-followed (plain t) [] (IsUtf8-plain t utf8) IsUtf8-nil width at in
      let none : columns [] ≡ 0 = ap columns_of (ap (clusters_after []) chars-nil ∙ clusters-none []) in
      omega (arith, bound, none)

  pub truncated-within : IsTrue (is_whole t) → IsTrue (is_whole tail) → IsClusterBoundary (plain (truncated t width tail)) (truncated_end t width tail) → columns (plain (truncated t width tail)) ≤ width
  truncated-within whole tail_whole at =
      let is = truncated-plain t width tail whole tail_whole in
      subst (λ x. columns x ≤ width) (sym is) (within-width (has_tail t width tail) refl (subst (λ x. IsClusterBoundary x (truncated_end t width tail)) is at))

-- ---- the width of printable ASCII

pub clusters-printable : (before cs : List ℕ) → list_all is_printable cs ≡ true → clusters_after before cs ≡ map (λ c. c ∷ []) cs
clusters-printable before [] all = clusters-none before
clusters-printable before (c ∷ []) all = cluster-begins before c [] ∙ cluster-last (c ∷ []) (c ∷ before) (λ none. cc)
clusters-printable before (c ∷ d ∷ cs) all =
    let first = and_parts _ _ all in
    cluster-begins before c (d ∷ cs) ∙ cluster-ends (c ∷ []) (c ∷ before) (d ∷ cs) (breaks-between before c d cs first.0 (and_parts _ _ first.1).0)
    ∙ ap (λ ks. (c ∷ []) ∷ ks) (clusters-printable (c ∷ before) (d ∷ cs) first.1)

is_ascii : (c : ℕ) → is_printable c ≡ true → c < 128
is_ascii c printable = grind (arith, nat_tests)

fitting-one : (width c : ℕ) (ks : List (List ℕ)) → is_printable c ≡ true → fitting_end (suc width) ((c ∷ []) ∷ ks) ≡ suc (fitting_end width ks)
fitting-one width c ks printable =
    let one : cluster_width (c ∷ []) ≡ 1 = str_width-printable false (c ∷ []) (rw printable refl) in
    let size : length (encode_utf8_all (c ∷ [])) ≡ 1 = ap length (append-nil _ ∙ encode_ascii c (is_ascii c printable)) in
    let less : suc width - 1 ≡ width = omega arith in
    ap (λ w. if nat_le w (suc width) then length (encode_utf8_all (c ∷ [])) + fitting_end (suc width - w) ks else 0) one
    ∙ ap (λ b. if b then length (encode_utf8_all (c ∷ [])) + fitting_end (suc width - 1) ks else 0) (le-leb 1 (suc width) (omega arith))
    ∙ ap₂ (λ n w. n + fitting_end w ks) size less ∙ omega arith

fitting-none : (c : ℕ) (ks : List (List ℕ)) → is_printable c ≡ true → fitting_end 0 ((c ∷ []) ∷ ks) ≡ 0
fitting-none c ks printable =
    let one : cluster_width (c ∷ []) ≡ 1 = str_width-printable false (c ∷ []) (rw printable refl) in
    ap (λ w. if nat_le w 0 then length (encode_utf8_all (c ∷ [])) + fitting_end (0 - w) ks else 0) one

fitting-singles : (width : ℕ) (cs : List ℕ) → list_all is_printable cs ≡ true → fitting_end width (map (λ c. c ∷ []) cs) ≡ min width (length cs)
fitting-singles zero [] all = refl
fitting-singles (suc width) [] all = omega arith
fitting-singles zero (c ∷ cs) all = fitting-none c (map (λ c. c ∷ []) cs) (and_parts _ _ all).0 ∙ omega arith
fitting-singles (suc width) (c ∷ cs) all =
    let parts = and_parts _ _ all in
    let more = fitting-singles width cs parts.1 in
    let step = fitting-one width c (map (λ c. c ∷ []) cs) parts.0 in
    omega (arith, more, step)

fitting-printable : (width : ℕ) (x : List ℕ) → list_all is_printable x ≡ true → fitting_end width (clusters x) ≡ min width (length x)
fitting-printable width x all =
    ap (λ cs. fitting_end width (clusters_after [] cs)) (chars-IsAscii x (IsAscii-from_all x (All-printable_is_ascii x all)))
    ∙ ap (fitting_end width) (clusters-printable [] x all) ∙ fitting-singles width x all

columns-two : (x y : List ℕ) → list_all is_printable x ≡ true → list_all is_printable y ≡ true → columns (x ++ y) ≡ length x + length y
columns-two x y first second = columns-printable (x ++ y) (list_all-append is_printable x y ∙ and_from _ _ first second) ∙ length-append x y

module _ (t : List ℕ) (width : ℕ) (tail : List ℕ) (printable : list_all is_printable (plain t) ≡ true) (tail_printable : list_all is_printable (plain tail) ≡ true) where
  cut-columns : (b : Bool) → b ≡ has_tail t width tail
      → columns (take (fitting_end (if b then width - columns (plain tail) else width) (clusters (plain t))) (plain t) ++ (if b then plain tail else [])) ≡ min (columns (plain t)) width
  cut-columns true is =
      let end = fitting_end (width - columns (plain tail)) (clusters (plain t)) in
      let parts = and_parts _ _ (sym is) in
      let end_is = fitting-printable (width - columns (plain tail)) (plain t) printable in
      let wide = leb-false (columns (plain t)) width (not-true _ parts.0) in
      let narrow = leb-true (columns (plain tail)) width parts.1 in
      omega (
        arith,
        columns-two (take end (plain t)) (plain tail) (list_all-parts is_printable end (plain t) printable).0 tail_printable,
        columns-printable (plain t) printable,
        columns-printable (plain tail) tail_printable,
        wide,
        narrow,
        end_is,
        length-take-le end (plain t) (omega (arith, end_is)),
      )
  cut-columns false is =
      let end = fitting_end width (clusters (plain t)) in
      let end_is = fitting-printable width (plain t) printable in
      omega (
        arith,
        columns-two (take end (plain t)) [] (list_all-parts is_printable end (plain t) printable).0 refl,
        columns-printable (plain t) printable,
        end_is,
        length-take-le end (plain t) (omega (arith, end_is)),
      )

  pub truncated-columns : IsTrue (is_whole t) → IsTrue (is_whole tail) → columns (plain (truncated t width tail)) ≡ min (columns (plain t)) width
  truncated-columns whole tail_whole = ap columns (truncated-plain t width tail whole tail_whole) ∙ cut-columns (has_tail t width tail) refl

pub blanks_are_printable : (n : ℕ) → list_all is_printable (blanks n) ≡ true
blanks_are_printable zero = refl
blanks_are_printable (suc n) = blanks_are_printable n

pub padded-columns : (t : List ℕ) (width : ℕ) (alignment : Alignment) → list_all is_printable (plain t) ≡ true → IsTrue (is_whole t) → columns (plain (padded t width alignment)) ≡ max (columns (plain t)) width
padded-columns t width alignment printable whole =
    let lack = missing t width in
    let before = before_text alignment lack in
    let front = blanks before ++ plain t in
    let front_is = list_all-append is_printable (blanks before) (plain t) ∙ and_from _ _ (blanks_are_printable before) printable in
    omega (
      arith,
      ap columns (padded-plain t width alignment whole),
      columns-two front (blanks (lack - before)) front_is (blanks_are_printable (lack - before)),
      length-append (blanks before) (plain t),
      length-replicate before (byte " "),
      length-replicate (lack - before) (byte " "),
      before-within alignment lack,
      columns-printable (plain t) printable,
    )

-- ---- the width of any padded text

pub bytes_of-clusters : (x : List ℕ) → IsUtf8 x → bytes_of (clusters x) ≡ length x
bytes_of-clusters x utf8 = ap length (clusters_after-bytes [] (chars x) ∙ encodes-chars x utf8)

-- if a cluster ends between two texts, each place between clusters of the whole that is in the first text is between clusters of the first text
boundary-front : (x y : List ℕ) (i : ℕ) → IsUtf8 x → clusters (x ++ y) ≡ clusters x ++ clusters y → i ≤ length x → IsClusterBoundary (x ++ y) i → IsClusterBoundary x i
boundary-front x y i utf8 sum within at =
    let n = at.0 in
    let ks = clusters x in
    let rest = take (n - length ks) (clusters y) in
    let split : bytes_of (take n (clusters (x ++ y))) ≡ bytes_of (take n ks) + bytes_of rest = ap (λ ls. bytes_of (take n ls)) sum ∙ ap bytes_of (take-append n ks (clusters y)) ∙ bytes_of-append (take n ks) rest in
    elim (cases_lt n (length ks)) [
      | inl less ↦ (
          let none : n - length ks ≡ 0 = omega (arith, less) in
          let empty : bytes_of rest ≡ 0 = ap (λ k. bytes_of (take k (clusters y))) none in
          (n, omega (arith, at.1, split, empty)))
      | inr all ↦ (n, omega (arith, at.1, split, within, ap bytes_of (take_all n ks all), bytes_of-clusters x utf8))
    ]

pub IsUtf8-blanks : (n : ℕ) → IsUtf8 (blanks n)
IsUtf8-blanks n = IsUtf8-from_ascii (blanks n) (IsAscii-from_all (blanks n) (All-printable_is_ascii (blanks n) (blanks_are_printable n)))

columns-blanks : (n : ℕ) → columns (blanks n) ≡ n
columns-blanks n = columns-printable (blanks n) (blanks_are_printable n) ∙ length-replicate n (byte " ")

-- a text between blanks, if clusters end at both ends of the text
pub clusters-between : (n m : ℕ) (x : List ℕ) → IsUtf8 x → IsClusterBoundary (blanks n ++ x ++ blanks m) n → IsClusterBoundary (blanks n ++ x ++ blanks m) (n + length x)
    → clusters (blanks n ++ x ++ blanks m) ≡ clusters (blanks n) ++ clusters x ++ clusters (blanks m)
clusters-between n m x utf8 before after =
    let front = blanks n ++ x in
    let front_utf8 = IsUtf8-append (blanks n) x (IsUtf8-blanks n) utf8 in
    let size : length front ≡ n + length x = length-append (blanks n) x ∙ ap (λ k. k + length x) (length-replicate n (byte " ")) in
    let at = subst (IsClusterBoundary (front ++ blanks m)) (sym size) after in
    let sum = clusters-add_up front (blanks m) front_utf8 (IsUtf8-blanks m) at in
    let inner = boundary-front front (blanks m) n front_utf8 sum (omega (arith, size)) before in
    let begin = subst (IsClusterBoundary front) (sym (length-replicate n (byte " "))) inner in
    sum ∙ ap (λ ks. ks ++ clusters (blanks m)) (clusters-add_up (blanks n) x (IsUtf8-blanks n) utf8 begin)

columns-between : (n m : ℕ) (x : List ℕ) → IsUtf8 x → IsClusterBoundary (blanks n ++ x ++ blanks m) n → IsClusterBoundary (blanks n ++ x ++ blanks m) (n + length x) → columns (blanks n ++ x ++ blanks m) ≡ n + columns x + m
columns-between n m x utf8 before after =
    let sum = ap columns_of (clusters-between n m x utf8 before after) in
    omega (arith, sum, sum_by-append cluster_width (clusters (blanks n) ++ clusters x) (clusters (blanks m)), sum_by-append cluster_width (clusters (blanks n)) (clusters x), columns-blanks n, columns-blanks m)

-- a padded text whose plain text is UTF-8
pub padded-fills-plain : (t : List ℕ) (width : ℕ) (alignment : Alignment) → IsUtf8 (plain t) → IsTrue (is_whole t)
    → IsClusterBoundary (plain (padded t width alignment)) (before_text alignment (missing t width))
    → IsClusterBoundary (plain (padded t width alignment)) (before_text alignment (missing t width) + length (plain t))
    → columns (plain (padded t width alignment)) ≡ max (columns (plain t)) width
padded-fills-plain t width alignment utf8 whole begin end =
    let lack = missing t width in
    let before = before_text alignment lack in
    let is = padded-plain t width alignment whole in
    let sum = columns-between before (lack - before) (plain t) utf8
    (subst (λ x. IsClusterBoundary x before) is begin) (subst (λ x. IsClusterBoundary x (before + length (plain t))) is end) in
    omega (arith, ap columns is, sum, before-within alignment lack)

pub padded-fills : (t : List ℕ) (width : ℕ) (alignment : Alignment) → IsUtf8 t → IsTrue (is_whole t)
    → IsClusterBoundary (plain (padded t width alignment)) (before_text alignment (missing t width))
    → IsClusterBoundary (plain (padded t width alignment)) (before_text alignment (missing t width) + length (plain t))
    → columns (plain (padded t width alignment)) ≡ max (columns (plain t)) width
padded-fills t width alignment utf8 = padded-fills-plain t width alignment (IsUtf8-plain t utf8)
