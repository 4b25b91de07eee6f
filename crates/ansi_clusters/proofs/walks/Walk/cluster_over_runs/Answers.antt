use Rattle.std.proofs.Common.{◌≡◌, ◌+◌, ◌^◌, ◌<◌, length, encode_utf8, slice_index, sym, subst, arith, rules}
use Rattle.ansi_items.proofs.PlainLemmas.{length-plain}
use Rattle.unicode_segmentation.proofs.TextLemmas.{encode_utf8_nonempty}
use Rattle.ansi_clusters.specs.Views.{IsTight}
use Rattle.ansi_clusters.specs.declared.walks.Walk.{Walk}
use Rattle.ansi_clusters.proofs.TightLemmas.{tight-one}
use Rattle.ansi_clusters.proofs.WalkLemmas.{walk_boundary}
use Rattle.ansi_clusters.proofs.walks.Walk.cluster_over_runs.Goals as goal

pub at-requires : goal.at-requires
at-requires c =
    let t = c.args.text.now in
    let size : length t < 2 ^ 63 = search rules in
    omega (arith, size, length-plain t, (c.requires.next c.requires.some).first.walk.within)

pub cluster_from-requires-clause-tight : goal.cluster_from-requires-clause-tight
cluster_from-requires-clause-tight c =
    let t = c.args.text.now in
    let view = c.args.view in
    let w = c.args.self in
    let past = (c.requires.next c.requires.some).first in
    let b = slice_index t w.offset in
    let size : w.position + 1 ≡ w.position + length (encode_utf8 b) = omega (arith, past.size, encode_utf8_nonempty b) in
    let tight : IsTight view t (w.position + 1) = tight-one view t c.utf8.text w.position (w.position + 1) (omega arith) (walk_boundary t c.utf8.text w c.requires.walk) (walk_boundary t c.utf8.text _ past.walk) b past.one size in
    subst (λ (v : Walk). IsTight view t v.position) (sym c.at.ensures) tight
