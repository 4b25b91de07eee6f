use Rattle.std.proofs.Common.{◌∷◌, refl, sym, ◌∙◌, ap, subst, arith}
use Rattle.std.proofs.lemmas.Bool.Decides.{nat_tests}
use Rattle.ansi_clusters.specs.declared.views.View.TheVariants.{Given}
use Rattle.ansi_clusters.specs.Walks.{after, IsNext}
use Rattle.ansi_clusters.proofs.WalkLemmas.{after-past}
use Rattle.ansi_clusters.proofs.KindLemmas.{line_end-none, line_end-other, line_end-long, line_end-feed, return-len, return-none, return-other, return-feed}
use Rattle.ansi_clusters.proofs.lines.is_line_end.Goals as goal

pub returns-then-len-gt2 : goal.returns-then-len-gt2
returns-then-len-gt2 c =
    sym (line_end-long c.args.text.now c.utf8.text c.args.here.now c.requires.here c.args.next.now c.requires.next c.requires.ordered
    (λ e. omega (arith, c.if-len-gt2.true, e)) (λ e. omega (arith, c.if-len-gt2.true, e)))

pub returns-in-Some-eq10 : goal.returns-in-Some-eq10
returns-in-Some-eq10 c =
    sym (line_end-feed c.args.text.now c.utf8.text c.args.here.now c.requires.here c.args.next.now c.requires.next c.requires.ordered
    (subst (IsNext c.args.text.now c.args.here.now) (omega (arith, c.in-Some-eq10.field-0-is, c.in-Some-eq10.field-0-test)) c.in-Some-eq10.ensures))

pub returns-in-Some-eq10-matches : goal.returns-in-Some-eq10-matches
returns-in-Some-eq10-matches c =
    let return : IsNext c.args.text.now c.args.here.now 0x0D = subst (IsNext c.args.text.now c.args.here.now) (omega (arith, c.in-Some-eq13.field-0-is, c.in-Some-eq13.field-0-test)) c.in-Some-eq13.ensures in
    sym (return-feed c.args.text.now c.utf8.text c.args.here.now c.requires.here c.args.next.now c.requires.next c.requires.ordered
    return c.past.result (c.past.ensures.walk Given c.requires.here (record { given = 0x0D; next = return; seen = refl; size = refl })) c.past.ensures.position
    (after-past c.args.text.now c.utf8.text c.args.here.now c.requires.here 0x0D return ∙ ap (λ n. 0x0D ∷ after c.args.text.now n) (sym c.past.ensures.position))
    (subst (IsNext c.args.text.now c.past.result) (omega (arith, c.in-Some-eq10-matches.field-0-is, c.in-Some-eq10-matches.field-0-test)) c.in-Some-eq10-matches.ensures)
    (grind (arith, nat_tests, c.if-len-eq2.true)))

pub returns-in_default-matches : goal.returns-in_default-matches
returns-in_default-matches c =
    let return : IsNext c.args.text.now c.args.here.now 0x0D = subst (IsNext c.args.text.now c.args.here.now) (omega (arith, c.in-Some-eq13.field-0-is, c.in-Some-eq13.field-0-test)) c.in-Some-eq13.ensures in
    sym (return-other c.args.text.now c.utf8.text c.args.here.now c.requires.here c.args.next.now c.requires.next c.requires.ordered
    return c.past.result (c.past.ensures.walk Given c.requires.here (record { given = 0x0D; next = return; seen = refl; size = refl })) c.past.ensures.position
    (after-past c.args.text.now c.utf8.text c.args.here.now c.requires.here 0x0D return ∙ ap (λ n. 0x0D ∷ after c.args.text.now n) (sym c.past.ensures.position))
    _ c.in_default-matches.ensures
    (λ e. grind (arith, nat_tests, c.in_default-matches.field-0-is, c.in_default-matches.field-0-test, e)))

pub returns-in_default-matches-2 : goal.returns-in_default-matches-2
returns-in_default-matches-2 c =
    let return : IsNext c.args.text.now c.args.here.now 0x0D = subst (IsNext c.args.text.now c.args.here.now) (omega (arith, c.in-Some-eq13.field-0-is, c.in-Some-eq13.field-0-test)) c.in-Some-eq13.ensures in
    sym (return-none c.args.text.now c.utf8.text c.args.here.now c.requires.here c.args.next.now c.requires.next c.requires.ordered
    return c.past.result (c.past.ensures.walk Given c.requires.here (record { given = 0x0D; next = return; seen = refl; size = refl })) c.past.ensures.position
    (after-past c.args.text.now c.utf8.text c.args.here.now c.requires.here 0x0D return ∙ ap (λ n. 0x0D ∷ after c.args.text.now n) (sym c.past.ensures.position))
    (rw c.in_default-matches.is at c.next_char-in-Some-eq13.ensures))

pub returns-in_default : goal.returns-in_default
returns-in_default c =
    sym (return-len c.args.text.now c.utf8.text c.args.here.now c.requires.here c.args.next.now c.requires.next c.requires.ordered
    (subst (IsNext c.args.text.now c.args.here.now) (omega (arith, c.in-Some-eq13.field-0-is, c.in-Some-eq13.field-0-test)) c.in-Some-eq13.ensures) (λ e. grind (arith, nat_tests, c.if-len-eq2.false, e)))

pub returns-in_default-2 : goal.returns-in_default-2
returns-in_default-2 c =
    sym (line_end-other c.args.text.now c.utf8.text c.args.here.now c.requires.here c.args.next.now c.requires.next c.requires.ordered _ c.in_default.ensures
    (λ e. grind (arith, nat_tests, c.in_default.field-0-is, c.in_default.field-0-test, e))
    (λ e. grind (arith, nat_tests, c.in_default.field-0-is, c.in_default.field-0-test, e)))

pub returns-in_default-3 : goal.returns-in_default-3
returns-in_default-3 c = sym (line_end-none c.args.text.now c.utf8.text c.args.here.now c.requires.here c.args.next.now c.requires.next c.requires.ordered (rw c.in_default.is at c.next_char.ensures))

pub next_char-requires : goal.next_char-requires
next_char-requires c = (Given, c.requires.here)

pub past-requires-clause-walk : goal.past-requires-clause-walk
past-requires-clause-walk c = (Given, c.requires.here)

pub past-requires-clause-next : goal.past-requires-clause-next
past-requires-clause-next c = (0x0D, subst (IsNext c.args.text.now c.args.here.now) (omega (arith, c.in-Some-eq13.field-0-is, c.in-Some-eq13.field-0-test)) c.in-Some-eq13.ensures, refl)

pub next_char-requires-in-Some-eq13 : goal.next_char-requires-in-Some-eq13
next_char-requires-in-Some-eq13 c =
    let return : IsNext c.args.text.now c.args.here.now 0x0D = subst (IsNext c.args.text.now c.args.here.now) (omega (arith, c.in-Some-eq13.field-0-is, c.in-Some-eq13.field-0-test)) c.in-Some-eq13.ensures in
    (Given, c.past.ensures.walk Given c.requires.here (record { given = 0x0D; next = return; seen = refl; size = refl }))
