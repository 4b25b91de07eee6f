use Rattle.std.proofs.Common.{◌+◌, ◌&&◌, drop, ap, sym, ◌∙◌}
use Rattle.ansi_restyle.specs.ReplacedEach.{swaps_of, swap_nothing}
use Rattle.ansi_restyle.proofs.ReplacedEachLemmas.{next_nothing, no_swaps}
use Rattle.ansi_restyle.proofs.replace_each.edit_nothing.Goals as goal

pub returns-then-not-is_nothing : goal.returns-then-not-is_nothing
returns-then-not-is_nothing c =
    let all = c.args.edits.now in
    let i = c.loop-edit.edit-index in
    sym (c.loop-edit.invariant ∙ next_nothing all i _ c.is_nothing.result c.loop-edit-test.true c.is_nothing.ensures ∙ ap (λ b. b && swap_nothing (swaps_of (drop (i + 1) all))) c.if-not-is_nothing.true)

pub loop-edit-preserved : goal.loop-edit-preserved
loop-edit-preserved c =
    let all = c.args.edits.now in
    let i = c.loop-edit.edit-index in
    c.loop-edit.invariant ∙ next_nothing all i _ c.is_nothing.result c.loop-edit-test.true c.is_nothing.ensures ∙ ap (λ b. b && swap_nothing (swaps_of (drop (i + 1) all))) c.if-not-is_nothing.false

pub returns : goal.returns
returns c = sym (c.loop-edit.invariant ∙ ap swap_nothing (no_swaps c.args.edits.now c.loop-edit.edit-index c.loop-edit-test.false))
