-- How far a walk over one cluster has come.
use Rattle.std.proofs.Common.{◌≡◌, ◌≢◌, ℕ, ◌+◌, ◌<◌, ◌≤◌, true, false, List, [], ◌∷◌, ◌++◌, length, encode_utf8, sym, ◌∙◌, ap, ap₂, subst, arith}
use Rattle.std.specs.Str.{IsUtf8, IsCharBoundary}
use Rattle.unicode_segmentation.specs.Grapheme.{is_grapheme_break}
use Rattle.unicode_segmentation.proofs.TextLemmas.{encode_utf8_nonempty}
use Rattle.ansi_items.specs.Plain.{plain}
use Rattle.ansi_clusters.specs.declared.views.View.{View}
use Rattle.ansi_clusters.specs.declared.views.View.TheVariants.{Given}
use Rattle.ansi_clusters.specs.declared.walks.Walk.{Walk}
use Rattle.ansi_clusters.specs.Views.{seen_char, seen}
use Rattle.ansi_clusters.specs.Walks.{seen_before, seen_after, seen_cluster, clusters_after, seen_clusters, IsWalkIn, IsNext, IsSeenNext}
use Rattle.ansi_clusters.proofs.ClusterLemmas.{clusters_with, cluster-begins, cluster-goes_on, cluster-ends, cluster-last, clusters-none}
use Rattle.ansi_clusters.proofs.ViewLemmas.{seen-one, before-one, after-one, cluster-none, cluster-split}
use Rattle.ansi_clusters.proofs.WalkLemmas.{walk_boundary, boundary_past, cluster-push}

-- the clusters from the position n on are the one that goes on at m, and those after it
pub record IsClusterTo (view : View) (t : List ℕ) (n m : ℕ) : Type 0 where
  pub ahead : n < m
  pub some : seen_before view t m ≢ []
  pub so_far : seen_clusters view t n ≡ clusters_with (seen_cluster view t n m) (seen_before view t m) (seen_after view t m)

not_empty : {x y : List ℕ} {c : ℕ} → x ≡ c ∷ y → x ≢ []
not_empty e none = (let f = sym e ∙ none in cc)

-- what is seen of the next character
pub seen_cluster-next : (view : View) {t : List ℕ} {w : Walk} {any : View} {c : ℕ} → IsUtf8 t → IsWalkIn any t w → IsNext t w c → seen_cluster view t w.position (w.position + length (encode_utf8 c)) ≡ seen_char view c
seen_cluster-next view {t} {w} {any} {c} utf8 walk next =
    ap (seen view) (cluster-push t utf8 w walk c next w.position (omega arith) (walk_boundary t utf8 w walk))
    ∙ ap (λ cs. seen view (cs ++ c ∷ [])) (cluster-none Given t w.position) ∙ seen-one view c

-- after characters that aren't seen, only the next one is seen
pub seen_cluster-past : {view : View} {t : List ℕ} {w : Walk} {c : ℕ} (n m : ℕ) → IsUtf8 t → IsCharBoundary (plain t) n → n ≤ w.position → IsWalkIn view t w → seen_cluster view t n w.position ≡ [] → IsSeenNext view t w c
    → m ≡ w.position + length (encode_utf8 c) → IsCharBoundary (plain t) m × (seen_cluster view t w.position m ≡ c ∷ []) × (seen_cluster view t n m ≡ c ∷ []) × (n < m)
seen_cluster-past {view} {t} {w} {c} n m utf8 start ordered walk none next place =
    let here : m ≡ w.position + length (encode_utf8 next.given) = omega (arith, place, next.size) in
    let end : IsCharBoundary (plain t) m = subst (IsCharBoundary (plain t)) (sym here) (boundary_past t utf8 w walk next.given next.next) in
    let one : seen_cluster view t w.position m ≡ c ∷ [] = ap (seen_cluster view t w.position) here ∙ seen_cluster-next view utf8 walk next.next ∙ next.seen in
    let some : 0 < length (encode_utf8 c) = omega (arith, encode_utf8_nonempty c) in
    (end, one, cluster-split view t utf8 w.position m (omega (arith, place)) (walk_boundary t utf8 w walk) end n ordered start ∙ ap₂ (λ xs ys. xs ++ ys) none one, omega (arith, ordered, place, some))

module _ (view : View) (t : List ℕ) (utf8 : IsUtf8 t) where
  pub cluster-first : (n m c : ℕ) → n < m → IsCharBoundary (plain t) n → IsCharBoundary (plain t) m → seen_cluster view t n m ≡ c ∷ [] → IsClusterTo view t n m
  cluster-first n m c less start end one =
      let before_is = before-one view t utf8 n m (omega (arith, less)) start end c one in
      let after_is = after-one view t utf8 n m (omega (arith, less)) start end c one in
      record {
        ahead = less;
        some = not_empty before_is;
        so_far = ap (clusters_after (seen_before view t n)) after_is ∙ cluster-begins (seen_before view t n) c (seen_after view t m)
            ∙ ap₂ (λ part b. clusters_with part b (seen_after view t m)) (sym one) (sym before_is);
      }

  pub cluster-more : (n p m c : ℕ) → IsCharBoundary (plain t) n → IsClusterTo view t n p → p < m → IsCharBoundary (plain t) p → IsCharBoundary (plain t) m → seen_cluster view t p m ≡ c ∷ []
      → is_grapheme_break true (seen_before view t p) (c ∷ seen_after view t m) ≡ false → IsClusterTo view t n m
  cluster-more n p m c first so_far less start end one joins =
      let before_is = before-one view t utf8 p m (omega (arith, less)) start end c one in
      let after_is = after-one view t utf8 p m (omega (arith, less)) start end c one in
      let pushed : seen_cluster view t n m ≡ seen_cluster view t n p ++ c ∷ []
      = cluster-split view t utf8 p m (omega (arith, less)) start end n (omega (arith, so_far.ahead)) first ∙ ap (λ cs. seen_cluster view t n p ++ cs) one in
      record {
        ahead = omega (arith, so_far.ahead, less);
        some = not_empty before_is;
        so_far = so_far.so_far ∙ ap (clusters_with (seen_cluster view t n p) (seen_before view t p)) after_is
            ∙ cluster-goes_on (seen_cluster view t n p) (seen_before view t p) c (seen_after view t m) joins
            ∙ ap₂ (λ part b. clusters_with part b (seen_after view t m)) (sym pushed) (sym before_is);
      }

pub cluster-stops : {view : View} {t : List ℕ} {n m : ℕ} → IsClusterTo view t n m → is_grapheme_break true (seen_before view t m) (seen_after view t m) ≡ true
    → seen_clusters view t n ≡ seen_cluster view t n m ∷ seen_clusters view t m
cluster-stops {view} {t} {n} {m} so_far breaks = so_far.so_far ∙ cluster-ends (seen_cluster view t n m) (seen_before view t m) (seen_after view t m) breaks

pub cluster-is_last : {view : View} {t : List ℕ} {n m : ℕ} → IsClusterTo view t n m → seen_after view t m ≡ [] → seen_clusters view t n ≡ seen_cluster view t n m ∷ seen_clusters view t m
cluster-is_last {view} {t} {n} {m} so_far none =
    so_far.so_far ∙ ap (clusters_with (seen_cluster view t n m) (seen_before view t m)) none ∙ cluster-last (seen_cluster view t n m) (seen_before view t m) so_far.some
    ∙ ap (λ ks. seen_cluster view t n m ∷ ks) (sym (ap (clusters_after (seen_before view t m)) none ∙ clusters-none (seen_before view t m)))
