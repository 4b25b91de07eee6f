use Rattle.std.proofs.Common.{◌≡◌, [], ◌∙◌, ap, arith}
use Rattle.ansi_clusters.specs.Views.{seen}
use Rattle.ansi_clusters.specs.Walks.{after, IsSeenNext}
use Rattle.ansi_clusters.proofs.ClusterWalkLemmas.{seen_cluster-past}
use Rattle.ansi_clusters.proofs.ViewLemmas.{seen-nil, after-none}
use Rattle.ansi_clusters.proofs.TightLemmas.{tight-one}
use Rattle.ansi_clusters.proofs.WalkLemmas.{walk_boundary}
use Rattle.ansi_clusters.proofs.walks.Walk.read_cluster.Goals as goal

-- nothing is seen
pub returns-in_err-first : goal.returns-in_err-first
returns-in_err-first c =
    let t = c.args.text.now in
    let view = c.args.view in
    let start = c.next_seen-first.result.0 in
    let found = c.next_seen-first.ensures in
    let none : after t start.position ≡ [] = rw c.in_err-first.was at found.next in
    rw c.from_residual.ensures (after-none view t c.utf8.text c.args.self.position start.position found.ordered (walk_boundary t c.utf8.text c.args.self c.requires) (walk_boundary t c.utf8.text start found.walk) found.left_out ∙ ap (seen view) none ∙ seen-nil view)

pub cluster_from-requires-clause-first : goal.cluster_from-requires-clause-first
cluster_from-requires-clause-first c =
    let t = c.args.text.now in
    let view = c.args.view in
    let n = c.args.self.position in
    let m = c.past.result.position in
    let found = c.next_seen-first.ensures in
    let next : IsSeenNext view t c.next_seen-first.result.0 c.in_ok-first.first = rw c.in_ok-first.was at found.next in
    let begin = walk_boundary t c.utf8.text c.args.self c.requires in
    let past = seen_cluster-past n m c.utf8.text begin found.ordered found.walk found.left_out next c.past.ensures.position in
    record { walk = c.past.ensures.walk view found.walk next; one = past.2; size = omega (arith, found.ordered, c.past.ensures.position) }

pub cluster_from-requires-clause-tight : goal.cluster_from-requires-clause-tight
cluster_from-requires-clause-tight c =
    let t = c.args.text.now in
    let view = c.args.view in
    let n = c.args.self.position in
    let m = c.past.result.position in
    let start = c.next_seen-first.result.0 in
    let found = c.next_seen-first.ensures in
    let next : IsSeenNext view t start c.in_ok-first.first = rw c.in_ok-first.was at found.next in
    let past = seen_cluster-past n m c.utf8.text (walk_boundary t c.utf8.text c.args.self c.requires) found.ordered found.walk found.left_out next c.past.ensures.position in
    tight-one view t c.utf8.text start.position m (omega (arith, c.past.ensures.position)) (walk_boundary t c.utf8.text start found.walk) past.0 c.in_ok-first.first past.1 c.past.ensures.position
