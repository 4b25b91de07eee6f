use Rattle.ansi_search.proofs.Common.{rules, ◌≤◌, ◌&&◌, ◌-◌, ◌^◌, length, drop, nat_eq, sym, ◌∙◌, ap, ap₂, arith, starts_with, slice_range, plain, length-plain}
use Rattle.ansi_search.proofs.PrefixLemmas.{starts_with-run}
use Rattle.ansi_search.proofs.SliceLemmas.{slice_range-rest, slice_range-past}
use Rattle.ansi_search.proofs.search.prefix.continues_with.Goals as goal

-- over a run that isn't how what is left of the pattern begins
pub returns-then-not-starts_with : goal.returns-then-not-starts_with
returns-then-not-starts_with c =
    let rest = c.loop-wanted.rest.now in
    let wanted = c.loop-wanted.wanted.now in
    let run = c.run_front.result.0.now in
    let after = c.run_front.result.1.now in
    let front = slice_range run c.min.result (length run) in
    let tail = starts_with nat_eq (drop (c.loop-wanted.before - length run) (plain after)) (drop (length front) wanted) in
    let given = c.run_front.ensures in
    let inside : length rest ≤ 2 ^ 64 - 1 = omega (arith, c.loop-wanted.invariant.within, c.well_formed.0.0) in
    let met = starts_with-run (plain rest) run (plain after) wanted front c.loop-wanted.before c.saturating_add.result (2 ^ 64 - 1) c.saturating_add.ensures
    (omega (arith, length-plain rest, inside)) (omega (arith, length-plain after, given.within, inside)) given.front given.most (slice_range-rest run c.loop-wanted.before c.min.result c.min.ensures) in
    ap (λ b. b && tail) (sym (sym c.starts_with.ensures.value ∙ c.if-not-starts_with.true)) ∙ sym met ∙ c.loop-wanted.invariant.met

-- over one that is
pub loop-wanted-preserved : goal.loop-wanted-preserved
loop-wanted-preserved c =
    let rest = c.loop-wanted.rest.now in
    let wanted = c.loop-wanted.wanted.now in
    let run = c.run_front.result.0.now in
    let after = c.run_front.result.1.now in
    let front = slice_range run c.min.result (length run) in
    let tail = starts_with nat_eq (drop (c.loop-wanted.before - length run) (plain after)) (drop (length front) wanted) in
    let given = c.run_front.ensures in
    let inside : length rest ≤ 2 ^ 64 - 1 = omega (arith, c.loop-wanted.invariant.within, c.well_formed.0.0) in
    let met = starts_with-run (plain rest) run (plain after) wanted front c.loop-wanted.before c.saturating_add.result (2 ^ 64 - 1) c.saturating_add.ensures
    (omega (arith, length-plain rest, inside)) (omega (arith, length-plain after, given.within, inside)) given.front given.most (slice_range-rest run c.loop-wanted.before c.min.result c.min.ensures) in
    record {
      text = search rules;
      within = omega (arith, given.within, c.loop-wanted.invariant.within);
      met = ap₂ (λ k q. starts_with nat_eq (drop k (plain after)) q) c.saturating_sub-before.ensures (slice_range-past wanted (length front) _ (omega arith))
          ∙ ap (λ b. b && tail) (sym (sym c.starts_with.ensures.value ∙ c.if-not-starts_with.false)) ∙ sym met ∙ c.loop-wanted.invariant.met;
    }
