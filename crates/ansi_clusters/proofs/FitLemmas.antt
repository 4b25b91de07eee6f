-- What fits of a text into a width: whether it is all of the text, and its end as a function.
use Rattle.std.proofs.Common.{◌≡◌, ℕ, zero, suc, ◌+◌, ◌-◌, ◌<◌, ◌≤◌, true, false, List, [], ◌∷◌, ◌++◌, length, take, drop, flat_map, encode_utf8_all, nat_le, if◌then◌else◌, refl, sym, ◌∙◌, ap, arith, append-nil, length-append, take-append-drop}
use Rattle.std.specs.Str.{IsUtf8, chars}
use Rattle.std.proofs.lemmas.Bool.{le-leb, leb-true, lt-leb}
use Rattle.std.proofs.lemmas.List.{take_at}
use Rattle.std.proofs.lemmas.List.Sums.{sum_by-cons, sum_by-append}
use Rattle.std.proofs.lemmas.Str.{scalars-chars}
use Rattle.ansi_items.specs.Plain.{plain}
use Rattle.ansi_items.proofs.Utf8Lemmas.{IsUtf8-plain}
use Rattle.ansi_safe.specs.Cells.{cell}
use Rattle.ansi_safe.proofs.CellTextLemmas.{IsUtf8-cell}
use Rattle.ansi_clusters.specs.Columns.{clusters, cluster_width, columns_of, columns, bytes_of, FitsUpTo, line_char, fitting_end}
use Rattle.ansi_clusters.specs.declared.views.View.{View}
use Rattle.ansi_clusters.specs.declared.views.View.TheVariants.{Given, Shown, Lined}
use Rattle.ansi_clusters.specs.Views.{seen_text, seen_len}
use Rattle.ansi_clusters.specs.Walks.{seen_after, seen_cluster, seen_clusters, IsFittingTo}
use Rattle.ansi_clusters.proofs.ClusterLawLemmas.{columns-front}
use Rattle.ansi_clusters.proofs.ColumnLemmas.{seen_clusters-end}
use Rattle.ansi_clusters.proofs.ViewLemmas.{line_chars-scalar}

-- if all fits, its columns and those that are left are the width
pub IsFittingTo-columns : {view : View} {t : List ℕ} {width n left : ℕ} → IsFittingTo view t width n left → seen_after view t n ≡ [] → columns (seen_text view t) + left ≡ width
IsFittingTo-columns {view} {t} {width} {n} fitting none =
    let all = fitting.all ∙ ap (λ ks. fitting.front ++ ks) (seen_clusters-end view t n none) ∙ append-nil fitting.front in
    omega (arith, fitting.columns, ap columns_of all)

pub IsFittingTo-end : {view : View} {t : List ℕ} {width n left : ℕ} → IsFittingTo view t width n left → seen_after view t n ≡ [] → true ≡ nat_le (columns (seen_text view t)) width
IsFittingTo-end {view} {t} {width} fitting none = sym (le-leb (columns (seen_text view t)) width (omega (arith, IsFittingTo-columns fitting none)))

pub not_all_fit : {view : View} {t : List ℕ} {width n left k : ℕ} (m : ℕ) → IsFittingTo view t width n left → seen_clusters view t n ≡ seen_cluster view t n m ∷ seen_clusters view t m → k ≡ cluster_width (seen_cluster view t n m) → left < k
    → false ≡ nat_le (columns (seen_text view t)) width
not_all_fit {view} {t} {width} {n} m fitting first is less =
    let all = ap columns_of (fitting.all ∙ ap (λ ks. fitting.front ++ ks) first) ∙ sum_by-append cluster_width fitting.front (seen_cluster view t n m ∷ seen_clusters view t m) in
    sym (lt-leb (columns (seen_text view t)) width (omega (arith, fitting.columns, is, less, all, sum_by-cons cluster_width (seen_cluster view t n m) (seen_clusters view t m))))

-- The end of what fits is the one that the function gives.

bytes_of-cons : (k : List ℕ) (ks : List (List ℕ)) → bytes_of (k ∷ ks) ≡ length (encode_utf8_all k) + bytes_of ks
bytes_of-cons k ks = length-append (encode_utf8_all k) (flat_map encode_utf8_all ks)

fitting_end-count : (ks : List (List ℕ)) (width count : ℕ) → columns_of (take count ks) ≤ width → (count < length ks → width < columns_of (take (count + 1) ks)) → bytes_of (take count ks) ≡ fitting_end width ks
fitting_end-count [] width zero fits greatest = refl
fitting_end-count [] width (suc count) fits greatest = refl
fitting_end-count (k ∷ ks) width zero fits greatest =
    let wide : width < cluster_width k = omega (arith, greatest (omega arith), sum_by-cons cluster_width k []) in
    sym (ap (λ b. if b then length (encode_utf8_all k) + fitting_end (width - cluster_width k) ks else 0) (lt-leb (cluster_width k) width wide))
fitting_end-count (k ∷ ks) width (suc count) fits greatest =
    let front = sum_by-cons cluster_width k (take count ks) in
    let more : suc count + 1 ≡ suc (count + 1) = omega arith in
    let longer = ap (λ n. columns_of (take n (k ∷ ks))) more ∙ sum_by-cons cluster_width k (take (count + 1) ks) in
    bytes_of-cons k (take count ks)
    ∙ ap (λ n. length (encode_utf8_all k) + n) (fitting_end-count ks (width - cluster_width k) count (omega (arith, fits, front)) (λ less. omega (arith, fits, front, greatest (omega arith), longer)))
    ∙ sym (ap (λ b. if b then length (encode_utf8_all k) + fitting_end (width - cluster_width k) ks else 0) (le-leb (cluster_width k) width (omega (arith, fits, front))))

pub fitting_end-fits : {x : List ℕ} {width end : ℕ} → FitsUpTo x width end → end ≡ fitting_end width (clusters x)
fitting_end-fits {x} {width} fit = fit.boundary ∙ fitting_end-count (clusters x) width fit.count fit.fits fit.greatest

seen_text-utf8 : (view : View) (t : List ℕ) → IsUtf8 t → IsUtf8 (seen_text view t)
seen_text-utf8 Given t utf8 = IsUtf8-plain t utf8
seen_text-utf8 Shown t utf8 = IsUtf8-plain (cell t) (IsUtf8-cell t utf8)
seen_text-utf8 Lined t utf8 = (let cs = chars (plain t) in (flat_map line_char cs, (line_chars-scalar cs (scalars-chars (plain t) (IsUtf8-plain t utf8)), refl)))

-- the columns of the clusters that fit are those of the text up to their end, and of the same text up to a later position before which nothing more is seen
pub fitting-columns : {view : View} {t : List ℕ} {width n left : ℕ} (m : ℕ) → IsFittingTo view t width n left → IsUtf8 t → seen_len view t m ≡ seen_len view t n → columns (take (seen_len view t m) (seen_text view t)) + left ≡ width
fitting-columns {view} {t} {width} {n} m fitting utf8 same =
    let count = length fitting.front in
    let taken = ap (take count) fitting.all ∙ take_at fitting.front (seen_clusters view t n) count refl in
    let end = same ∙ fitting.boundary ∙ ap bytes_of (sym taken) in
    omega (arith, fitting.columns, ap (λ i. columns (take i (seen_text view t))) end, columns-front (seen_text view t) (seen_text-utf8 view t utf8) count, ap columns_of taken)

-- a text that fits ends at the same place in a greater width
pub fits-wider : {x : List ℕ} {width end : ℕ} (wider : ℕ) → FitsUpTo x width end → nat_le (columns x) width ≡ true → width ≤ wider → FitsUpTo x wider end
fits-wider {x} {width} wider fit all more =
    let ks = clusters x in
    let n = fit.count + 1 in
    let whole : columns_of (take n ks) + columns_of (drop n ks) ≡ columns_of ks = sym (sum_by-append cluster_width (take n ks) (drop n ks)) ∙ ap columns_of (take-append-drop n ks) in
    record {
      count = fit.count;
      boundary = fit.boundary;
      fits = omega (arith, fit.fits, more);
      greatest = λ less. absurd (omega (arith, fit.greatest less, whole, leb-true (columns x) width all));
    }
