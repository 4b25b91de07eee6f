-- A walk over a single character and those that add a known number of columns to it: they are a cluster.
use Rattle.std.proofs.Common.{◌≡◌, ◌≢◌, ℕ, ◌+◌, ◌*◌, ◌-◌, ◌≤◌, true, Some, List, [], ◌∷◌, ◌++◌, length, slice_range, encode_utf8, refl, sym, ◌∙◌, ap, arith, length-append}
use Rattle.std.specs.Str.{IsUtf8}
use Rattle.std.proofs.lemmas.Bool.Decides.{nat_tests}
use Rattle.ucd_breaks.specs.GraphemeClusterBreak.{grapheme_cluster_break}
use Rattle.unicode_segmentation.specs.Grapheme.{is_grapheme_break}
use Rattle.ansi_search.proofs.SliceLemmas.{length-slice_range}
use Rattle.ansi_safe.specs.Safe.{is_printing}
use Rattle.ansi_clusters.specs.declared.break_state.BreakState.{BreakState}
use Rattle.ansi_clusters.specs.declared.walks.Walk.{Walk}
use Rattle.ansi_clusters.specs.declared.views.View.{View}
use Rattle.ansi_clusters.specs.BreakStates.{break_state_of, state_of, added_columns, IsSingle}
use Rattle.ansi_clusters.specs.Columns.{cluster_width}
use Rattle.ansi_clusters.specs.FirstFit.{is_of_word}
use Rattle.ansi_clusters.specs.Lines.{is_blank, is_line_end}
use Rattle.ansi_clusters.specs.Views.{IsTight}
use Rattle.ansi_clusters.specs.Walks.{seen_before, seen_after, seen_cluster, IsWalkIn, IsNext, IsSeenNext, IsPastCluster}
use Rattle.ansi_clusters.specs.Words.{IsPastLetter}
use Rattle.ansi_clusters.proofs.AddedLemmas.{IsAdded, IsStateAdded, IsExtendedBy, extended-one, extended-push, extended-width, joins-added, push-added, breaks-added}
use Rattle.ansi_clusters.proofs.ViewLemmas.{seen-printing, before-one, cluster-none, cluster-split}
use Rattle.ansi_clusters.proofs.TightLemmas.{tight-one}
use Rattle.ansi_clusters.proofs.WalkLemmas.{walk_boundary, walk-on}
use Rattle.ansi_clusters.proofs.ClusterWalkLemmas.{IsClusterTo, seen_cluster-past, cluster-first, cluster-more, cluster-stops}
use Rattle.ansi_clusters.proofs.SingleWalkLemmas.{walk_past, seen_after-printing}

-- the cluster of the walk w goes on up to v; it is c and characters that add columns
pub record IsExtendedTo (view : View) (t : List ℕ) (w v : Walk) (c columns : ℕ) : Type 0 where
  pub walk : IsWalkIn view t v
  pub so_far : IsClusterTo view t w.position v.position
  pub tight : IsTight view t v.position
  pub state : IsStateAdded v.break_state
  pub is : IsExtendedBy (seen_cluster view t w.position v.position) c columns

-- the run goes on after a character
goes_on : (view : View) (t : List ℕ) (w : Walk) (c : ℕ) (rest : List ℕ) → IsWalkIn view t w → slice_range t w.offset w.run_end ≡ encode_utf8 c ++ rest → rest ≢ [] → w.offset + length (encode_utf8 c) ≢ w.run_end
goes_on view t w c [] walk bytes some e = some refl
goes_on view t w c (b ∷ rest) walk bytes some e = absurd (omega (
  arith,
  e,
  ap length bytes,
  length-append (encode_utf8 c) (b ∷ rest),
  walk.run.ordered,
  length-slice_range t w.offset w.run_end walk.run.ordered walk.run.end_boundary.0,
))

module _ (view : View) (t : List ℕ) (utf8 : IsUtf8 t) (w : Walk) (walk : IsWalkIn view t w) (c : ℕ) where
  pub extended-first : (rest : List ℕ) (state : BreakState) → slice_range t w.offset w.run_end ≡ encode_utf8 c ++ rest → rest ≢ [] → is_printing c ≡ true → IsStateAdded state → ((before : List ℕ) → state ≡ break_state_of (c ∷ before))
      → IsExtendedTo view t w (walk_past w (length (encode_utf8 c)) state) c (cluster_width (c ∷ []))
  extended-first rest state bytes some printing added state_is =
      let v = walk_past w (length (encode_utf8 c)) state in
      let next : IsNext t w c = record { rest = rest; bytes = bytes } in
      let seen_next : IsSeenNext view t w c = record { given = c; next = next; seen = seen-printing view c printing; size = refl } in
      let begin = walk_boundary t utf8 w walk in
      let past = seen_cluster-past w.position v.position utf8 begin (omega arith) walk (cluster-none view t w.position) seen_next refl in
      let before_is = before-one view t utf8 w.position v.position (omega (arith, past.3)) begin past.0 c past.1 in
      record {
        walk = walk-on t utf8 w walk c next view v refl refl refl (goes_on view t w c rest walk bytes some) (state_is (seen_before view t w.position) ∙ ap break_state_of (sym before_is));
        so_far = cluster-first view t utf8 w.position v.position c past.3 begin past.0 past.1;
        tight = tight-one view t utf8 w.position v.position (omega (arith, past.3)) begin past.0 c past.1 refl;
        state = added;
        is = extended-one (seen_cluster view t w.position v.position) c (cluster_width (c ∷ [])) past.1 refl;
      }

  module _ (v : Walk) (columns : ℕ) (so_far : IsExtendedTo view t w v c columns) where
    pub extended-more : (d k : ℕ) (rest : List ℕ) (state : BreakState) → slice_range t v.offset v.run_end ≡ encode_utf8 d ++ rest → rest ≢ [] → added_columns d ≡ Some k → IsAdded d k → state ≡ state_of (grapheme_cluster_break d) → IsStateAdded state
        → IsExtendedTo view t w (walk_past v (length (encode_utf8 d)) state) c (columns + k)
    extended-more d k rest state bytes some adds is state_is added =
        let u = walk_past v (length (encode_utf8 d)) state in
        let next : IsNext t v d = record { rest = rest; bytes = bytes } in
        let seen_next : IsSeenNext view t v d = record { given = d; next = next; seen = seen-printing view d is.printing; size = refl } in
        let begin = walk_boundary t utf8 v so_far.walk in
        let begun = walk_boundary t utf8 w walk in
        let past = seen_cluster-past v.position u.position utf8 begin (omega arith) so_far.walk (cluster-none view t v.position) seen_next refl in
        let before_is = before-one view t utf8 v.position u.position (omega (arith, past.3)) begin past.0 d past.1 in
        let pushed : seen_cluster view t w.position u.position ≡ seen_cluster view t w.position v.position ++ d ∷ []
        = cluster-split view t utf8 v.position u.position (omega (arith, past.3)) begin past.0 w.position (omega (arith, so_far.so_far.ahead)) begun ∙ ap (λ cs. seen_cluster view t w.position v.position ++ cs) past.1 in
        let longer = extended-push (seen_cluster view t w.position v.position) (seen_cluster view t w.position u.position) c columns d k so_far.is pushed adds in
        record {
          walk = walk-on t utf8 v so_far.walk d next view u refl refl refl (goes_on view t v d rest so_far.walk bytes some)
              (state_is ∙ push-added v.break_state (seen_before view t v.position) d k so_far.state so_far.walk.break_state is ∙ ap break_state_of (sym before_is));
          so_far = cluster-more view t utf8 w.position v.position u.position d begun so_far.so_far past.3 begin past.0 past.1
              (joins-added v.break_state (seen_before view t v.position) d k (seen_after view t u.position) so_far.so_far.some so_far.state so_far.walk.break_state is);
          tight = tight-one view t utf8 v.position u.position (omega (arith, past.3)) begin past.0 d past.1 refl;
          state = added;
          is = longer;
        }

    pub extended-stops : (d : ℕ) → IsNext t v d → IsSingle d → is_printing d ≡ true → columns ≤ 2 * (v.position - w.position) → IsPastCluster view t w v columns
    extended-stops d next single printing bound =
        let after_is = seen_after-printing view t utf8 v so_far.walk d next printing in (
          so_far.walk,
          so_far.so_far.ahead,
          cluster-stops so_far.so_far (ap (is_grapheme_break true (seen_before view t v.position)) after_is.1
              ∙ breaks-added v.break_state (seen_before view t v.position) d after_is.0 so_far.so_far.some so_far.state so_far.walk.break_state single),
          extended-width (seen_cluster view t w.position v.position) c columns so_far.is,
          bound,
          so_far.tight,
        )

-- it is of a word
of_word-more : (c : ℕ) (cs : List ℕ) → is_printing c ≡ true → c ≢ 0x20 → is_of_word (c ∷ cs) ≡ true
unfolding is_blank is_line_end
of_word-more c cs printing solid = grind (arith, nat_tests)

pub extended-letter : {view : View} {t : List ℕ} {w v : Walk} {c columns : ℕ} → IsExtendedTo view t w v c columns → IsPastCluster view t w v columns → is_printing c ≡ true → c ≢ 0x20 → IsPastLetter view t w v columns
extended-letter {c = c} to past printing solid = record { past = past; of_word = ap is_of_word to.is.is ∙ of_word-more c to.is.added printing solid }
