-- A walk over a single character before another: it is a cluster by itself.
use Rattle.std.proofs.Common.{◌≡◌, ◌≢◌, ℕ, ◌+◌, ◌<◌, true, ◌&&◌, List, [], ◌∷◌, ◌++◌, length, slice_range, encode_utf8, refl, sym, ◌∙◌, ap, ap₂, arith, append_assoc, length-append}
use Rattle.std.specs.Str.{IsUtf8}
use Rattle.std.proofs.lemmas.Bool.{lt-ltb}
use Rattle.std.proofs.lemmas.Bool.Decides.{nat_tests}
use Rattle.std.proofs.lemmas.List.Folds.{list_all-append}
use Rattle.std.proofs.lemmas.List.Sums.{sum_by-append}
use Rattle.unicode_segmentation.specs.Grapheme.{is_grapheme_break}
use Rattle.unicode_segmentation.proofs.TextLemmas.{encode_utf8_nonempty}
use Rattle.ansi_search.proofs.SliceLemmas.{length-slice_range}
use Rattle.ansi_safe.specs.Safe.{is_printing}
use Rattle.ansi_clusters.specs.declared.break_state.BreakState.{BreakState}
use Rattle.ansi_clusters.specs.declared.walks.Walk.{Walk}
use Rattle.ansi_clusters.specs.declared.views.View.{View}
use Rattle.ansi_clusters.specs.BreakStates.{break_state_of, IsSingle, IsShownSingle}
use Rattle.ansi_clusters.specs.Columns.{cluster_width}
use Rattle.ansi_clusters.specs.Views.{seen}
use Rattle.ansi_clusters.specs.Walks.{after, seen_before, seen_after, seen_cluster, seen_clusters, IsWalkIn, IsNext, IsSeenNext, IsPastCluster, IsPastClusters, has_width}
use Rattle.ansi_clusters.specs.FirstFit.{is_of_word}
use Rattle.ansi_clusters.specs.Lines.{is_blank, is_line_end}
use Rattle.ansi_clusters.specs.Words.{IsPastLetter, ArePastLetters}
use Rattle.ansi_clusters.proofs.SingleLemmas.{breaks-single}
use Rattle.ansi_clusters.proofs.ViewLemmas.{seen-nil, seen-one, seen-append, seen-printing, before-one, cluster-none, seen_len-split}
use Rattle.ansi_clusters.proofs.TightLemmas.{tight-one}
use Rattle.ansi_clusters.proofs.WalkLemmas.{walk_boundary, after-past, rest_at, walk-on}
use Rattle.ansi_clusters.proofs.ClusterLawLemmas.{breaks-last}
use Rattle.ansi_clusters.proofs.ColumnLemmas.{bytes_of-push, bytes_of-append, columns_of-push}
use Rattle.ansi_clusters.proofs.WidthLemmas.{width-alone-bound}
use Rattle.ansi_clusters.proofs.ClusterWalkLemmas.{seen_cluster-past, cluster-first, cluster-stops}

module _ (view : View) (t : List ℕ) (utf8 : IsUtf8 t) (w : Walk) (walk : IsWalkIn view t w) where
  -- what is seen begins with the next character, if that prints
  pub seen_after-printing : (c : ℕ) → IsNext t w c → is_printing c ≡ true → (rest : List ℕ) × (seen_after view t w.position ≡ c ∷ rest)
  seen_after-printing c next printing =
      let more = after t (w.position + length (encode_utf8 c)) in
      (seen view more, ap (seen view) (after-past t utf8 w walk c next) ∙ seen-append view (c ∷ []) more ∙ ap (λ x. x ++ seen view more) (seen-one view c ∙ seen-printing view c printing))

  module _ (c : ℕ) (next : IsNext t w c) (v : Walk) (position : v.position ≡ w.position + length (encode_utf8 c)) where
    -- the character is a cluster by itself if one ends after it
    pub past-alone : (width : ℕ) → IsShownSingle c width → IsWalkIn view t v → is_grapheme_break true (c ∷ seen_before view t w.position) (seen_after view t v.position) ≡ true → IsPastCluster view t w v width
    past-alone width shown later breaks =
        let seen_next : IsSeenNext view t w c = record { given = c; next = next; seen = seen-printing view c shown.printing; size = refl } in
        let begin = walk_boundary t utf8 w walk in
        let past = seen_cluster-past w.position v.position utf8 begin (omega arith) walk (cluster-none view t w.position) seen_next position in
        let before_is = before-one view t utf8 w.position v.position (omega (arith, past.3)) begin past.0 c past.1 in (
          later,
          past.3,
          cluster-stops (cluster-first view t utf8 w.position v.position c past.3 begin past.0 past.1) (ap (λ b. is_grapheme_break true b (seen_after view t v.position)) before_is ∙ breaks),
          shown.columns_are ∙ ap cluster_width (sym past.1),
          omega (arith, shown.columns_are, width-alone-bound c, position),
          tight-one view t utf8 w.position v.position (omega (arith, past.3)) begin past.0 c past.1 position,
        )

    -- the state after it
    pub state-alone : is_printing c ≡ true → break_state_of (c ∷ seen_before view t w.position) ≡ break_state_of (seen_before view t v.position)
    state-alone printing =
        let seen_next : IsSeenNext view t w c = record { given = c; next = next; seen = seen-printing view c printing; size = refl } in
        let begin = walk_boundary t utf8 w walk in
        let past = seen_cluster-past w.position v.position utf8 begin (omega arith) walk (cluster-none view t w.position) seen_next position in
        ap break_state_of (sym (before-one view t utf8 w.position v.position (omega (arith, past.3)) begin past.0 c past.1))

    -- it is all that is seen of it
    pub seen-alone : is_printing c ≡ true → seen_cluster view t w.position v.position ≡ c ∷ []
    seen-alone printing =
        let seen_next : IsSeenNext view t w c = record { given = c; next = next; seen = seen-printing view c printing; size = refl } in
        (seen_cluster-past w.position v.position utf8 (walk_boundary t utf8 w walk) (omega arith) walk (cluster-none view t w.position) seen_next position).1

-- a cluster ends between single characters, and at the end
pub breaks-next : (view : View) (t : List ℕ) (utf8 : IsUtf8 t) (v : Walk) → IsWalkIn view t v → (before : List ℕ) (c d : ℕ) → IsSingle c → IsNext t v d → IsSingle d → is_printing d ≡ true → is_grapheme_break true (c ∷ before) (seen_after view t v.position) ≡ true
breaks-next view t utf8 v later before c d first next second printing =
    let after_is = seen_after-printing view t utf8 v later d next printing in
    ap (is_grapheme_break true (c ∷ before)) after_is.1 ∙ breaks-single before c d after_is.0 first second

pub breaks-none : (view : View) (t : List ℕ) (v : Walk) (before : List ℕ) (c : ℕ) → after t v.position ≡ [] → is_grapheme_break true (c ∷ before) (seen_after view t v.position) ≡ true
breaks-none view t v before c none = ap (is_grapheme_break true (c ∷ before)) (ap (seen view) none ∙ seen-nil view) ∙ breaks-last c before

module _ (view : View) (t : List ℕ) (utf8 : IsUtf8 t) (w : Walk) (walk : IsWalkIn view t w) (c d : ℕ) (more : List ℕ) (bytes : slice_range t w.offset w.run_end ≡ encode_utf8 c ++ (encode_utf8 d ++ more)) where
  abbrev next : IsNext t w c
  next = record { rest = encode_utf8 d ++ more; bytes = bytes }

  -- the run goes on
  more_left : w.offset + length (encode_utf8 c) ≢ w.run_end
  more_left e = absurd (omega (
    arith,
    e,
    ap length bytes,
    length-append (encode_utf8 c) (encode_utf8 d ++ more),
    length-append (encode_utf8 d) more,
    encode_utf8_nonempty d,
    walk.run.ordered,
    length-slice_range t w.offset w.run_end walk.run.ordered walk.run.end_boundary.0,
  ))

  pub past-single : (v : Walk) (width width_next : ℕ) → IsShownSingle c width → IsShownSingle d width_next → v.position ≡ w.position + length (encode_utf8 c) → v.offset ≡ w.offset + length (encode_utf8 c) → v.run_end ≡ w.run_end
      → ((before : List ℕ) → v.break_state ≡ break_state_of (c ∷ before)) → IsPastCluster view t w v width
  past-single v width width_next shown shown_next position offset run_end break_state =
      let state = break_state (seen_before view t w.position) ∙ state-alone view t utf8 w walk c next v position shown.printing in
      let later : IsWalkIn view t v = walk-on t utf8 w walk c next view v position offset run_end more_left state in
      let next_then : IsNext t v d = record { rest = more; bytes = ap₂ (slice_range t) offset run_end ∙ rest_at t utf8 w walk c next } in
      past-alone view t utf8 w walk c next v position width shown later (breaks-next view t utf8 v later (seen_before view t w.position) c d shown.single next_then shown_next.single shown_next.printing)

-- ---- several clusters

-- one, if it has columns
pub clusters-one : {view : View} {t : List ℕ} {w v : Walk} {n : ℕ} → IsUtf8 t → IsWalkIn view t w → IsPastCluster view t w v n → 0 < n → IsPastClusters view t w v n
clusters-one {view} {t} {w} {v} {n} utf8 walk step some =
    let cluster = seen_cluster view t w.position v.position in
    record {
      clusters = cluster ∷ [];
      walk = step.0;
      ordered = omega (arith, step.1);
      all = step.2;
      seen = omega (arith, bytes_of-push [] cluster, seen_len-split view t utf8 w.position v.position (omega (arith, step.1)) (walk_boundary t utf8 w walk) (walk_boundary t utf8 v step.0));
      each = ap (λ b. b && true) (lt-ltb 0 (cluster_width cluster) (omega (arith, some, step.3)));
      columns_are = omega (arith, step.3, columns_of-push [] cluster);
      bound = step.4;
    }

-- more after them
pub clusters-append : {view : View} {t : List ℕ} {from w v : Walk} {n k : ℕ} → IsPastClusters view t from w n → IsPastClusters view t w v k → IsPastClusters view t from v (n + k)
clusters-append {view} {t} {from} {w} {v} so_far more =
    let front = so_far.clusters in
    let last = more.clusters in
    record {
      clusters = front ++ last;
      walk = more.walk;
      ordered = omega (arith, so_far.ordered, more.ordered);
      all = so_far.all ∙ ap (λ ks. front ++ ks) more.all ∙ sym (append_assoc front last (seen_clusters view t v.position));
      seen = omega (arith, so_far.seen, more.seen, bytes_of-append front last);
      each = list_all-append has_width front last ∙ ap₂ (λ a b. a && b) so_far.each more.each;
      columns_are = omega (arith, so_far.columns_are, more.columns_are, sum_by-append cluster_width front last);
      bound = omega (arith, so_far.bound, so_far.ordered, more.bound, more.ordered);
    }

-- the walk after a character of the run, which has `len` bytes
abbrev pub walk_past : Walk → ℕ → BreakState → Walk
walk_past w len state = record { position = w.position + len; offset = w.offset + len; run_end = w.run_end; break_state = state }

-- a single one before another
pub clusters-single : {view : View} {t : List ℕ} {from w : Walk} {n width width_next c d : ℕ} (len : ℕ) (state : BreakState) (more : List ℕ) → IsUtf8 t → IsPastClusters view t from w n → slice_range t w.offset w.run_end ≡ encode_utf8 c ++ (encode_utf8 d ++ more) → IsShownSingle c width → IsShownSingle d width_next
    → len ≡ length (encode_utf8 c) → ((before : List ℕ) → state ≡ break_state_of (c ∷ before)) → IsPastClusters view t from (walk_past w len state) (n + width)
clusters-single {view} {t} {from} {w} {n} {width} {width_next} {c} {d} len state more utf8 so_far bytes shown shown_next size state_is =
    let step = past-single view t utf8 w so_far.walk c d more bytes (walk_past w len state) width width_next shown shown_next (ap (λ k. w.position + k) size) (ap (λ k. w.offset + k) size) refl state_is in
    clusters-append so_far (clusters-one utf8 so_far.walk step shown.some)

-- ---- the same as letters of a word

printing-of_word : (c : ℕ) → is_printing c ≡ true → c ≢ 0x20 → is_of_word (c ∷ []) ≡ true
unfolding is_blank is_line_end
printing-of_word c printing solid = grind (arith, nat_tests)

pub letter-alone : {view : View} {t : List ℕ} {w v : Walk} {c width : ℕ} → IsPastCluster view t w v width → seen_cluster view t w.position v.position ≡ c ∷ [] → is_printing c ≡ true → c ≢ 0x20 → IsPastLetter view t w v width
letter-alone {c} past seen printing solid = record { past = past; of_word = ap is_of_word seen ∙ printing-of_word c printing solid }

pub letters-none : (view : View) (t : List ℕ) (w : Walk) → ArePastLetters view t w w 0
letters-none view t w = ([], (refl, refl))

pub letters-push : {view : View} {t : List ℕ} {from w v : Walk} {n width : ℕ} → ArePastLetters view t from w n → IsPastLetter view t w v width → ArePastLetters view t from v (n + width)
letters-push {w} {n} {width} so_far letter = ((w, n) ∷ so_far.0, (so_far.1, width, refl, letter))

pub letters-single : {view : View} {t : List ℕ} {from w : Walk} {n width width_next c d : ℕ} (len : ℕ) (state : BreakState) (more : List ℕ) → IsUtf8 t → IsWalkIn view t w → ArePastLetters view t from w n → slice_range t w.offset w.run_end ≡ encode_utf8 c ++ (encode_utf8 d ++ more) → IsShownSingle c width → IsShownSingle d width_next
    → len ≡ length (encode_utf8 c) → ((before : List ℕ) → state ≡ break_state_of (c ∷ before)) → c ≢ 0x20 → ArePastLetters view t from (walk_past w len state) (n + width)
letters-single {view} {t} {from} {w} {n} {width} {width_next} {c} {d} len state more utf8 walk so_far bytes shown shown_next size state_is solid =
    let place = ap (λ k. w.position + k) size in
    let step = past-single view t utf8 w walk c d more bytes (walk_past w len state) width width_next shown shown_next place (ap (λ k. w.offset + k) size) refl state_is in
    let next : IsNext t w c = record { rest = encode_utf8 d ++ more; bytes = bytes } in
    letters-push so_far (letter-alone step (seen-alone view t utf8 w walk c next (walk_past w len state) place shown.printing) shown.printing solid)
