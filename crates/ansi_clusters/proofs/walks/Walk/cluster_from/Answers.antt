use Rattle.std.proofs.Common.{◌≡◌, ◌<◌, ◌*◌, ◌-◌, ◌^◌, ◌+◌, ◌≤◌, ◌∷◌, ◌++◌, true, false, encode_utf8, [], None, refl, sym, ◌∙◌, ap, length, arith, rules}
use Rattle.ansi_items.proofs.PlainLemmas.{length-plain}
use Rattle.unicode_segmentation.specs.Grapheme.{is_grapheme_break}
use Rattle.unicode_segmentation.proofs.TextLemmas.{encode_utf8_nonempty}
use Rattle.ansi_clusters.specs.BreakStates.{break_state_of}
use Rattle.ansi_clusters.specs.Views.{seen}
use Rattle.ansi_clusters.proofs.AddedLemmas.{IsExtendedBy, extended-one, extended-width, known-push, known-less}
use Rattle.ansi_clusters.specs.Walks.{after, seen_before, seen_after, seen_cluster, seen_clusters, IsSeenNext}
use Rattle.ansi_clusters.proofs.ClusterWalkLemmas.{seen_cluster-past, cluster-first, cluster-more, cluster-stops, cluster-is_last}
use Rattle.ansi_clusters.proofs.ViewLemmas.{cluster-split, seen-nil, before-none, after-none, after-one}
use Rattle.ansi_clusters.proofs.TightLemmas.{tight-one}
use Rattle.ansi_clusters.proofs.WalkLemmas.{walk_boundary}
use Rattle.ansi_clusters.proofs.walks.Walk.cluster_from.Goals.{in_default-Some+then-ends_before, in_default}
use Rattle.ansi_clusters.proofs.walks.Walk.cluster_from.Goals as goal

pub cluster-init : goal.cluster-init
cluster-init c =
    let t = c.args.text.now in
    let view = c.args.view in
    let n = c.args.self.position in
    let m = c.args.after_first.position in
    let first = c.requires.first in
    let less : n < m = omega (arith, first.size, encode_utf8_nonempty c.args.first) in
    record {
      walk = first.walk;
      so_far = cluster-first view t c.utf8.text n m c.args.first less (walk_boundary t c.utf8.text c.args.self c.requires.walk) (walk_boundary t c.utf8.text c.args.after_first first.walk) first.one;
      tight = c.requires.tight;
      ordered = omega arith;
      known = (extended-one (seen_cluster view t n m) c.args.first c.char_width.result first.one c.char_width.ensures.value, omega (arith, c.char_width.ensures.bound, first.size));
    }

pub cluster-preserved : goal.cluster-preserved
cluster-preserved c =
    let t = c.args.text.now in
    let view = c.args.view in
    let inv = c.cluster.invariant in
    let n = c.args.self.position in
    let p = c.cluster.walk.position in
    let here = c.next_seen.result.0 in
    let found = c.next_seen.ensures in
    let m = c.past-walk.result.position in
    let next : IsSeenNext view t here c.in_default-Some.next = rw c.in_default-Some.is-1 at found.next in
    let begin = walk_boundary t c.utf8.text c.cluster.walk inv.walk in
    let past = seen_cluster-past p m c.utf8.text begin found.ordered found.walk found.left_out next c.past-walk.ensures.position in
    let state = found.walk.break_state ∙ ap break_state_of (before-none view t c.utf8.text p here.position found.ordered begin (walk_boundary t c.utf8.text here found.walk) found.left_out) in
    let joins : is_grapheme_break true (seen_before view t p) (c.in_default-Some.next ∷ seen_after view t m) ≡ false
    = sym (c.ends_before.ensures (seen_before view t p) (seen_after view t m) inv.so_far.some state) ∙ c.if-ends_before.false in
    let begun = walk_boundary t c.utf8.text c.args.self c.requires.walk in
    let pushed : seen_cluster view t n m ≡ seen_cluster view t n p ++ c.in_default-Some.next ∷ []
    = cluster-split view t c.utf8.text p m (omega (arith, past.3)) begin past.0 n (omega (arith, inv.so_far.ahead)) begun ∙ ap (λ cs. seen_cluster view t n p ++ cs) past.2 in
    record {
      walk = c.past-walk.ensures.walk view found.walk next;
      so_far = cluster-more view t c.utf8.text c.args.self.position p m c.in_default-Some.next (walk_boundary t c.utf8.text c.args.self c.requires.walk) inv.so_far past.3 begin past.0 past.2 joins;
      tight = tight-one view t c.utf8.text here.position m (omega (arith, c.past-walk.ensures.position)) (walk_boundary t c.utf8.text here found.walk) past.0 c.in_default-Some.next past.1 c.past-walk.ensures.position;
      ordered = omega (arith, inv.ordered, past.3);
      known = known-push c.cluster.columns c.with_added-columns.result (seen_cluster view t n p) (seen_cluster view t n m) c.args.first c.in_default-Some.next (2 * (p - n)) (2 * (m - n)) inv.known c.with_added-columns.ensures pushed (omega (arith, past.3, inv.so_far.ahead));
    }

pub with_added-columns-requires : goal.with_added-columns-requires
with_added-columns-requires c =
    let t = c.args.text.now in
    let view = c.args.view in
    let inv = c.cluster.invariant in
    let n = c.args.self.position in
    let p = c.cluster.walk.position in
    let size : length t < 2 ^ 63 = search rules in
    known-less c.cluster.columns (seen_cluster view t n p) c.args.first (2 * (p - n)) (2 ^ 64) inv.known (omega (arith, size, inv.walk.within, length-plain t))

pub cluster-smaller : goal.cluster-smaller
cluster-smaller c =
    let t = c.args.text.now in
    let view = c.args.view in
    let found = c.next_seen.ensures in
    let next : IsSeenNext view t c.next_seen.result.0 c.in_default-Some.next = rw c.in_default-Some.is-1 at found.next in
    let p = c.cluster.walk.position in
    let m = c.past-walk.result.position in
    let past = seen_cluster-past p m c.utf8.text (walk_boundary t c.utf8.text c.cluster.walk c.cluster.invariant.walk) found.ordered found.walk found.left_out next c.past-walk.ensures.position in
    omega (arith, past.3, past.0.0)

-- the cluster ends before the next character that is seen, or since none is

pub returns-in-Some : goal.returns-in-Some
returns-in-Some c =
    let t = c.args.text.now in
    let view = c.args.view in
    let inv = c.cluster.invariant in
    let walk = c.cluster.walk in
    let n = c.args.self.position in
    let p = walk.position in
    let here = c.next_seen.result.0 in
    let more = c.next_seen.ensures in
    let here_begin = walk_boundary t c.utf8.text walk inv.walk in
    let known : IsExtendedBy (seen_cluster view t n p) c.args.first c.in-Some.columns × (c.in-Some.columns ≤ 2 * (p - n)) = rw c.in-Some.is at inv.known in
    let first : seen_clusters view t n ≡ seen_cluster view t n p ∷ seen_clusters view t p = elim c.match-next_seen.branch [
      | in_default-Some+then-ends_before w ↦ (
          let next : IsSeenNext view t here w.in_default-Some.next = rw w.in_default-Some.is-1 at more.next in
          let m = here.position + length (encode_utf8 w.in_default-Some.next) in
          let past = seen_cluster-past p m c.utf8.text here_begin more.ordered more.walk more.left_out next refl in
          let state = more.walk.break_state ∙ ap break_state_of (before-none view t c.utf8.text p here.position more.ordered here_begin (walk_boundary t c.utf8.text here more.walk) more.left_out) in
          let rest = after-one view t c.utf8.text p m (omega (arith, past.3)) here_begin past.0 w.in_default-Some.next past.2 in
          cluster-stops inv.so_far (ap (is_grapheme_break true (seen_before view t p)) rest ∙ sym (w.ends_before.ensures (seen_before view t p) (seen_after view t m) inv.so_far.some state) ∙ w.if-ends_before.true))
      | in_default w ↦ (
          let is : c.next_seen.result.1 ≡ None = search rules in
          let none : after t here.position ≡ [] = rw is at more.next in
          cluster-is_last inv.so_far (after-none view t c.utf8.text p here.position more.ordered here_begin (walk_boundary t c.utf8.text here more.walk) more.left_out ∙ ap (seen view) none ∙ seen-nil view))
    ] in
    (inv.walk, inv.so_far.ahead, first, extended-width (seen_cluster view t n p) c.args.first c.in-Some.columns known.0, known.1, inv.tight)

pub returns-in-None : goal.returns-in-None
returns-in-None c =
    let t = c.args.text.now in
    let view = c.args.view in
    let inv = c.cluster.invariant in
    let walk = c.cluster.walk in
    let n = c.args.self.position in
    let p = walk.position in
    let here = c.next_seen.result.0 in
    let more = c.next_seen.ensures in
    let here_begin = walk_boundary t c.utf8.text walk inv.walk in
    let first : seen_clusters view t n ≡ seen_cluster view t n p ∷ seen_clusters view t p = elim c.match-next_seen.branch [
      | in_default-Some+then-ends_before w ↦ (
          let next : IsSeenNext view t here w.in_default-Some.next = rw w.in_default-Some.is-1 at more.next in
          let m = here.position + length (encode_utf8 w.in_default-Some.next) in
          let past = seen_cluster-past p m c.utf8.text here_begin more.ordered more.walk more.left_out next refl in
          let state = more.walk.break_state ∙ ap break_state_of (before-none view t c.utf8.text p here.position more.ordered here_begin (walk_boundary t c.utf8.text here more.walk) more.left_out) in
          let rest = after-one view t c.utf8.text p m (omega (arith, past.3)) here_begin past.0 w.in_default-Some.next past.2 in
          cluster-stops inv.so_far (ap (is_grapheme_break true (seen_before view t p)) rest ∙ sym (w.ends_before.ensures (seen_before view t p) (seen_after view t m) inv.so_far.some state) ∙ w.if-ends_before.true))
      | in_default w ↦ (
          let is : c.next_seen.result.1 ≡ None = search rules in
          let none : after t here.position ≡ [] = rw is at more.next in
          cluster-is_last inv.so_far (after-none view t c.utf8.text p here.position more.ordered here_begin (walk_boundary t c.utf8.text here more.walk) more.left_out ∙ ap (seen view) none ∙ seen-nil view))
    ] in
    (inv.walk, inv.so_far.ahead, first, c.width_up_to-width.ensures.value, c.width_up_to-width.ensures.bound, inv.tight)
