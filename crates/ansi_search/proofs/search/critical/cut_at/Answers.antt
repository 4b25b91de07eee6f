use Rattle.ansi_search.proofs.Common.{take, length, nat_eq, sym, ◌∙◌, ap, arith, starts_with}
use Rattle.ansi_search.proofs.SliceLemmas.{slice_range-past}
use Rattle.ansi_search.proofs.TwoWayLemmas.{cut-repeats, cut-apart}
use Rattle.ansi_search.proofs.search.critical.cut_at.Goals as goal
use Rattle.ansi_search.proofs.search.critical.cut_at.Goals.{else-at-rest-via-then-at-rest+else-starts_with, else-at-rest-via-else-at-rest}

pub returns-then-starts_with : goal.returns-then-starts_with
returns-then-starts_with c = grind (arith, cut-repeats, slice_range-past)

pub returns : goal.returns
returns c =
    let p = c.args.bytes.now in
    let rest = slice_range-past p c.args.suffix.period (length p) (omega arith) in
    cut-apart p c.args.suffix.start c.args.suffix.period c.max.result c.requires c.max.ensures (λ wide. elim c.else-at-rest.branch [
      | else-at-rest-via-then-at-rest+else-starts_with w ↦ ap (λ v. starts_with nat_eq v (take c.args.suffix.start p)) (sym rest) ∙ sym w.starts_with.ensures.value ∙ w.if-starts_with.false
      | else-at-rest-via-else-at-rest w ↦ absurd (omega (arith, wide, w.if-at-rest.false))
    ])
