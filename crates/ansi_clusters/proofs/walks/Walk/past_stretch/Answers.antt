use Rattle.std.proofs.Common.{◌^◌, ◌<◌, [], length, refl, sym, subst, arith, rules}
use Rattle.ansi_items.proofs.PlainLemmas.{length-plain}
use Rattle.ansi_clusters.specs.BreakStates.{break_state_of}
use Rattle.ansi_clusters.specs.Walks.{IsPastClusters}
use Rattle.ansi_clusters.proofs.LetterLemmas.{past-stretch}
use Rattle.ansi_clusters.proofs.walks.Walk.past_stretch.Goals as goal

pub on-requires-clause-position : goal.on-requires-clause-position
on-requires-clause-position c =
    let t = c.args.text.now in
    let stretch = c.stretch_before_last-len.ensures in
    let len = c.stretch_before_last-len.result.0 in
    let some : 0 < len = search rules in
    let past = past-stretch len (break_state_of []) c.utf8.text c.requires.1 (sym c.range-run.ensures.value) (stretch.stretch some) some stretch.within refl in
    let size : length t < 2 ^ 63 = search rules in
    omega (arith, size, past.walk.within, length-plain t)

pub returns-clause-past : goal.returns-clause-past
returns-clause-past c view walk =
    let stretch = c.stretch_before_last-len.ensures in
    let len = c.stretch_before_last-len.result.0 in
    let some : 0 < len = search rules in
    subst (λ v. IsPastClusters view c.args.text.now c.args.self v c.stretch_before_last-len.result.1) (sym c.on.ensures) (past-stretch len (break_state_of []) c.utf8.text walk (sym c.range-run.ensures.value) (stretch.stretch some) some stretch.within refl)
