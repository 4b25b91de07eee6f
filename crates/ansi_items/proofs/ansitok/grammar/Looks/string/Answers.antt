use Rattle.ansi_items.proofs.Common.{◌≡◌, ◌+◌, true, sym, ◌∙◌, ap, ⊎_elim, arith, nat_tests, cases_lt, is_plain_byte}
use Rattle.ansi_items.proofs.EscapeLemmas.{next_after_opener}
use Rattle.ansi_items.proofs.ansitok.grammar.Looks.string.Goals as goal

pub returns-in-Some-default-clause-next : goal.returns-in-Some-default-clause-next
returns-in-Some-default-clause-next c =
    let plain : is_plain_byte c.args.opener ≡ true = grind (arith, nat_tests, c.requires.opens) in
    let end = rw c.in-Some-default.is-0 at c.string_front.ensures.end in
    ⊎_elim
    (λ past. (c.escape_after.ensures.next past).0)
    (λ within. (c.escape_after.ensures.same within).0 ∙ next_after_opener c.args.text.now c.args.start c.string_front.result.1 c.in-Some-default.string.len c.string_front.ensures.place c.requires.inside (ap is_plain_byte (sym c.requires.opener) ∙ plain) end.0 within)
    (cases_lt c.string_front.result.1 (c.args.start + c.in-Some-default.string.len))
