use Rattle.std.proofs.Common.{◌≡◌, ◌+◌, ◌∷◌, length, encode_utf8, sym, ◌∙◌, ap, arith}
use Rattle.ansi_clusters.specs.BreakStates.{break_state_of}
use Rattle.ansi_clusters.specs.Walks.{seen_before}
use Rattle.ansi_clusters.proofs.ClusterWalkLemmas.{seen_cluster-past}
use Rattle.ansi_clusters.proofs.ViewLemmas.{cluster-none, before-one}
use Rattle.ansi_clusters.proofs.WalkLemmas.{walk_boundary}
use Rattle.ansi_clusters.proofs.walks.Walk.past.Goals as goal

pub moved-requires-clause-next : goal.moved-requires-clause-next
moved-requires-clause-next c = (c.requires.next.0, c.requires.next.1, omega (arith, c.len_utf8.ensures.len, c.requires.next.2))

pub returns-clause-walk : goal.returns-clause-walk
returns-clause-walk c view walk next =
    let t = c.args.text.now in
    let w = c.args.self in
    let m = c.moved.result.position in
    let place : m ≡ w.position + length (encode_utf8 c.args.seen) = omega (arith, c.moved.ensures.position, c.len_utf8.ensures.len) in
    let start = walk_boundary t c.utf8.text w walk in
    let past = seen_cluster-past w.position m c.utf8.text start (omega arith) walk (cluster-none view t w.position) next place in
    let before : seen_before view t m ≡ c.args.seen ∷ seen_before view t w.position = before-one view t c.utf8.text w.position m (omega (arith, place)) start past.0 c.args.seen past.1 in
    c.moved.ensures.walk view (c.after.ensures (seen_before view t w.position) walk.break_state ∙ ap break_state_of (sym before))
