use Rattle.std.proofs.Common.{None, Some, subst}
use Rattle.std.proofs.lemmas.List.{take_rest}
use Rattle.memchr.specs.Find.{FindsNeedle}
use Rattle.ansi_restyle.proofs.UnmarkedLemmas.{next-found, next-none}
use Rattle.ansi_restyle.proofs.unmarked.place_from.Goals as goal

pub returns-in-Some-clause-next : goal.returns-in-Some-clause-next
returns-in-Some-clause-next c =
    let t = c.args.text.now in
    let p = c.args.finder.now in
    next-found t p c.args.from c.in-Some.distance c.requires.within (subst (λ u. FindsNeedle u p 0 (Some c.in-Some.distance)) (take_rest t c.args.from) c.in-Some.ensures)

pub returns-in-None-clause-next : goal.returns-in-None-clause-next
returns-in-None-clause-next c =
    let t = c.args.text.now in
    let p = c.args.finder.now in
    next-none t p c.args.from c.requires.within (subst (λ u. FindsNeedle u p 0 None) (take_rest t c.args.from) c.in-None.ensures)
