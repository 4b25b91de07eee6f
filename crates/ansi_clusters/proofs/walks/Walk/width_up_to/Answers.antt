use Rattle.std.proofs.Common.{length, ◌∙◌, ap, arith}
use Rattle.std.specs.Str.{chars}
use Rattle.ansi_items.specs.Plain.{plain}
use Rattle.ansi_search.proofs.SliceLemmas.{length-slice_range}
use Rattle.ansi_clusters.specs.Columns.{cluster_width}
use Rattle.ansi_clusters.specs.Views.{seen}
use Rattle.ansi_clusters.proofs.WalkLemmas.{offsets_ordered, plain-between, run-between, boundary-between}
use Rattle.ansi_clusters.proofs.walks.Walk.width_up_to.Goals as goal

pub range-requires-clause-end_boundary : goal.range-requires-clause-end_boundary
range-requires-clause-end_boundary c = boundary-between c.args.text.now c.utf8.text c.args.self c.args.walk.now c.requires.here c.requires.later c.requires.ordered c.if-len-self.true

pub range-requires-else-len-self-clause-start_le_end : goal.range-requires-else-len-self-clause-start_le_end
range-requires-else-len-self-clause-start_le_end c = offsets_ordered c.args.text.now c.utf8.text c.args.self c.args.walk.now c.requires.here c.requires.later c.requires.ordered

pub returns-then-len-self-clause-value : goal.returns-then-len-self-clause-value
returns-then-len-self-clause-value c =
    c.run_width.ensures.value
    ∙ ap (λ x. cluster_width (seen c.args.view (chars x))) (c.range.ensures.value ∙ run-between c.args.text.now c.utf8.text c.args.self c.args.walk.now c.requires.here c.requires.later c.requires.ordered c.if-len-self.true)

pub returns-then-len-self-clause-bound : goal.returns-then-len-self-clause-bound
returns-then-len-self-clause-bound c =
    let t = c.args.text.now in
    let bytes = c.range.ensures.value ∙ run-between t c.utf8.text c.args.self c.args.walk.now c.requires.here c.requires.later c.requires.ordered c.if-len-self.true in
    omega (arith, c.run_width.ensures.bound, ap length bytes, length-slice_range (plain t) c.args.self.position c.args.walk.now.position c.requires.ordered c.requires.later.within)

pub returns-else-len-self-clause-value : goal.returns-else-len-self-clause-value
returns-else-len-self-clause-value c =
    let bytes = ap plain c.range-else-len-self.ensures.value ∙ plain-between c.args.text.now c.utf8.text c.args.self c.args.walk.now c.requires.here c.requires.later c.requires.ordered in
    c.width.ensures.value ∙ ap (λ x. cluster_width (seen c.args.view (chars x))) bytes

pub returns-else-len-self-clause-bound : goal.returns-else-len-self-clause-bound
returns-else-len-self-clause-bound c =
    let t = c.args.text.now in
    let bytes = ap plain c.range-else-len-self.ensures.value ∙ plain-between t c.utf8.text c.args.self c.args.walk.now c.requires.here c.requires.later c.requires.ordered in
    omega (arith, c.width.ensures.bound, ap length bytes, length-slice_range (plain t) c.args.self.position c.args.walk.now.position c.requires.ordered c.requires.later.within)
