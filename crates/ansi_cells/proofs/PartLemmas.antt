-- The clusters of a part of a text between two of its clusters: those between them.
use Rattle.std.proofs.Common.{◌≡◌, ℕ, zero, suc, ◌-◌, ◌≤◌, List, [], ◌∷◌, ◌++◌, length, map, take, drop, slice_range, refl, sym, ◌∙◌, ap, subst, arith}
use Rattle.std.specs.Str.{IsUtf8}
use Rattle.std.proofs.lemmas.List.{drop_at, take_at, take-append-drop, take-map, length-take-le}
use Rattle.std.proofs.lemmas.Str.{IsUtf8-take, IsUtf8-drop}
use Rattle.ansi_clusters.specs.Columns.{clusters, bytes_of, IsClusterBoundary}
use Rattle.ansi_cells.proofs.BreakLawLemmas.{clusters-add_up}
use Rattle.ansi_clusters.proofs.ClusterLawLemmas.{clusters-front}
use Rattle.ansi_clusters.proofs.ColumnLemmas.{bytes_of-append}
use Rattle.ansi_clusters.proofs.LineLawLemmas.{boundary_between}
use Rattle.ansi_cells.proofs.ShownLawLemmas.{bytes_of-clusters}

pub map-slice_range : {A B : Type 0} (f : A → B) (xs : List A) (i j : ℕ) → map f (slice_range xs i j) ≡ slice_range (map f xs) i j
map-slice_range f xs i j = sym (take-map f (j - i) (drop i xs)) ∙ ap (take (j - i)) (drop_map f i xs)
  where
    drop_map : {A B : Type 0} (f : A → B) (n : ℕ) (xs : List A) → map f (drop n xs) ≡ drop n (map f xs)
    drop_map f zero xs = refl
    drop_map f (suc n) [] = refl
    drop_map f (suc n) (x ∷ xs) = drop_map f n xs

module _ (x : List ℕ) (front part rest : List (List ℕ)) (utf8 : IsUtf8 x) (all : clusters x ≡ front ++ (part ++ rest)) where
  abbrev from : ℕ
  from = bytes_of front

  first_ones : take (length front) (clusters x) ≡ front
  first_ones = ap (take (length front)) all ∙ take_at front (part ++ rest) (length front) refl

  left : IsUtf8 (take from x)
  left = IsUtf8-take x from utf8 (boundary_between x utf8 front (part ++ rest) all)

  right : IsUtf8 (drop from x)
  right = IsUtf8-drop x from utf8 (boundary_between x utf8 front (part ++ rest) all)

  within : from ≤ length x
  within = omega (arith, bytes_of-clusters x utf8, ap bytes_of all, bytes_of-append front (part ++ rest))

  clusters-left : clusters (take from x) ≡ front
  clusters-left =
      ap (λ ls. clusters (take (bytes_of ls) x)) (sym first_ones) ∙ clusters-front x utf8 (length front) ∙ first_ones

  -- those after the front
  pub clusters-rest : clusters (drop from x) ≡ part ++ rest
  clusters-rest =
      let whole : take from x ++ drop from x ≡ x = take-append-drop from x in
      let size : length (take from x) ≡ from = length-take-le from x within in
      let at : IsClusterBoundary (take from x ++ drop from x) (length (take from x))
      = subst (λ u. IsClusterBoundary u (length (take from x))) (sym whole) (length front, size ∙ ap bytes_of (sym first_ones)) in
      let sum : front ++ (part ++ rest) ≡ front ++ clusters (drop from x)
      = sym all ∙ ap clusters (sym whole) ∙ clusters-add_up (take from x) (drop from x) left right at ∙ ap (λ ls. ls ++ clusters (drop from x)) clusters-left in
      sym (drop_at front (clusters (drop from x)) (length front) refl) ∙ ap (drop (length front)) (sym sum) ∙ drop_at front (part ++ rest) (length front) refl

  part_first : take (length part) (clusters (drop from x)) ≡ part
  part_first = ap (take (length part)) clusters-rest ∙ take_at part rest (length part) refl

  -- those of the part
  pub clusters-part : clusters (take (bytes_of part) (drop from x)) ≡ part
  clusters-part = ap (λ n. clusters (take n (drop from x))) (ap bytes_of (sym part_first)) ∙ clusters-front (drop from x) right (length part) ∙ part_first
