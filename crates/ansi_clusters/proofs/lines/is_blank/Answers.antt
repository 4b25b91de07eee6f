use Rattle.std.proofs.Common.{◌≡◌, ◌≢◌, ◌-◌, sym, ◌∙◌, subst, arith}
use Rattle.std.proofs.lemmas.Bool.{eq-eqb, ne_eqb}
use Rattle.std.proofs.lemmas.Bool.Decides.{nat_tests}
use Rattle.ansi_clusters.specs.declared.views.View.TheVariants.{Given}
use Rattle.ansi_clusters.specs.Walks.{IsNext}
use Rattle.ansi_clusters.proofs.KindLemmas.{blank-none, blank-other, blank-long, blank-len}
use Rattle.ansi_clusters.proofs.lines.is_blank.Goals as goal

pub returns-in-Some-eq32 : goal.returns-in-Some-eq32
returns-in-Some-eq32 c =
    let one : c.args.next.now.position - c.args.here.now.position ≡ 1 = omega (arith, c.if-next-here-eq1.true) in
    sym (blank-len c.args.text.now c.utf8.text c.args.here.now c.requires.here c.args.next.now c.requires.next c.requires.ordered
    (subst (IsNext c.args.text.now c.args.here.now) (omega (arith, c.in-Some-eq32.field-0-is, c.in-Some-eq32.field-0-test)) c.in-Some-eq32.ensures) ∙ eq-eqb (c.args.next.now.position - c.args.here.now.position) 1 one)

pub returns-else-next-here-eq1 : goal.returns-else-next-here-eq1
returns-else-next-here-eq1 c =
    let more : c.args.next.now.position - c.args.here.now.position ≢ 1 = λ e. omega (arith, c.if-next-here-eq1.false, e) in
    ne_eqb (c.args.next.now.position - c.args.here.now.position) 1 more
    ∙ sym (blank-long c.args.text.now c.utf8.text c.args.here.now c.requires.here c.args.next.now c.requires.next c.requires.ordered more)

pub returns-in_default : goal.returns-in_default
returns-in_default c =
    sym (blank-other c.args.text.now c.utf8.text c.args.here.now c.requires.here c.args.next.now c.requires.next c.requires.ordered _ c.in_default.ensures
    (λ e. grind (arith, nat_tests, c.in_default.field-0-is, c.in_default.field-0-test, e)))

pub returns-in_default-2 : goal.returns-in_default-2
returns-in_default-2 c = sym (blank-none c.args.text.now c.utf8.text c.args.here.now c.requires.here c.args.next.now c.requires.next c.requires.ordered (rw c.in_default.is at c.next_char.ensures))

pub next_char-requires : goal.next_char-requires
next_char-requires c = (Given, c.requires.here)
