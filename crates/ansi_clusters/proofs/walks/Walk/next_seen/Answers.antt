use Rattle.std.proofs.Common.{◌≡◌, ◌+◌, ◌≤◌, [], ◌++◌, length, encode_utf8, sym, ◌∙◌, ap, ap₂, subst, arith}
use Rattle.std.specs.Str.{IsCharBoundary}
use Rattle.unicode_segmentation.proofs.TextLemmas.{encode_utf8_nonempty}
use Rattle.ansi_items.specs.Plain.{plain}
use Rattle.ansi_clusters.specs.BreakStates.{break_state_of}
use Rattle.ansi_clusters.specs.Walks.{seen_cluster}
use Rattle.ansi_clusters.proofs.ClusterWalkLemmas.{seen_cluster-next}
use Rattle.ansi_clusters.proofs.ViewLemmas.{seen-size, cluster-none, cluster-split, before-none}
use Rattle.ansi_clusters.proofs.WalkLemmas.{walk_boundary, boundary_past, position_within}
use Rattle.ansi_clusters.proofs.walks.Walk.next_seen.Goals as goal

pub left_out-init : goal.left_out-init
left_out-init c = record { walk = c.requires; ordered = omega arith; none = cluster-none c.args.view c.args.text.now c.args.self.position }

pub next_char-requires : goal.next_char-requires
next_char-requires c = (c.args.view, c.left_out.invariant.walk)

pub moved-walk-requires-clause-walk : goal.moved-walk-requires-clause-walk
moved-walk-requires-clause-walk c = (c.args.view, c.left_out.invariant.walk)

pub moved-walk-requires-clause-next : goal.moved-walk-requires-clause-next
moved-walk-requires-clause-next c = (c.in-Some.c, c.in-Some.ensures, c.len_utf8.ensures.len)

-- over a character that isn't seen
pub left_out-preserved : goal.left_out-preserved
left_out-preserved c =
    let t = c.args.text.now in
    let v = c.args.view in
    let inv = c.left_out.invariant in
    let w = c.left_out.walk in
    let next = c.in-Some.ensures in
    let m = c.moved-walk.result.position in
    let place : m ≡ w.position + length (encode_utf8 c.in-Some.c) = omega (arith, c.moved-walk.ensures.position, c.len_utf8.ensures.len) in
    let start = walk_boundary t c.utf8.text w inv.walk in
    let end : IsCharBoundary (plain t) m = subst (IsCharBoundary (plain t)) (sym place) (boundary_past t c.utf8.text w inv.walk c.in-Some.c next) in
    let none : seen_cluster v t w.position m ≡ [] = ap (seen_cluster v t w.position) place ∙ seen_cluster-next v c.utf8.text inv.walk next ∙ (rw c.in_default-see.is at c.see.ensures) in
    let le : w.position ≤ m = omega (arith, place) in
    record {
      walk = c.moved-walk.ensures.walk v (inv.walk.break_state ∙ ap break_state_of (sym (before-none v t c.utf8.text w.position m le start end none)));
      ordered = omega (arith, inv.ordered, le);
      none = cluster-split v t c.utf8.text w.position m le start end c.args.self.position inv.ordered (walk_boundary t c.utf8.text c.args.self c.requires) ∙ ap₂ (λ xs ys. xs ++ ys) inv.none none;
    }

pub left_out-smaller : goal.left_out-smaller
left_out-smaller c =
    let t = c.args.text.now in
    omega (arith, c.moved-walk.ensures.position, c.len_utf8.ensures.len, encode_utf8_nonempty c.in-Some.c, position_within t c.utf8.text c.left_out.walk c.left_out.invariant.walk c.in-Some.c c.in-Some.ensures)

pub returns-in-Some-see-clause-next : goal.returns-in-Some-see-clause-next
returns-in-Some-see-clause-next c = record { given = c.in-Some.c; next = c.in-Some.ensures; seen = c.in-Some-see.ensures; size = seen-size c.args.view c.in-Some.c c.in-Some-see.seen c.in-Some-see.ensures }

pub returns-in-Some-see-clause-walk : goal.returns-in-Some-see-clause-walk
returns-in-Some-see-clause-walk c = c.left_out.invariant.walk

pub returns-in-Some-see-clause-ordered : goal.returns-in-Some-see-clause-ordered
returns-in-Some-see-clause-ordered c = c.left_out.invariant.ordered

pub returns-in-Some-see-clause-left_out : goal.returns-in-Some-see-clause-left_out
returns-in-Some-see-clause-left_out c = c.left_out.invariant.none

-- no character is left

pub returns-clause-walk : goal.returns-clause-walk
returns-clause-walk c = c.left_out.invariant.walk

pub returns-clause-ordered : goal.returns-clause-ordered
returns-clause-ordered c = c.left_out.invariant.ordered

pub returns-clause-left_out : goal.returns-clause-left_out
returns-clause-left_out c = c.left_out.invariant.none

pub returns-clause-next : goal.returns-clause-next
returns-clause-next c = rw c.in_default.is at c.next_char.ensures
