use Rattle.ansi_items.proofs.Common.{◌≡◌, false, true, ◌==◌, slice_index, sym, ◌∙◌, cond-false, cond-true, arith, nat_tests}
use Rattle.ansi_items.proofs.BetweenLemmas.{string_ended}
use Rattle.ansi_items.proofs.ansitok.grammar.Looks.control_string.Goals as goal

pub returns-in_err-byte-clause-front : goal.returns-in_err-byte-clause-front
returns-in_err-byte-clause-front c =
    let no : (slice_index c.args.after.now 1 == 92) ≡ false = grind (arith, nat_tests, c.in_err-byte.ensures.none) in
    c.from_residual.ensures ∙ sym (cond-false _ _ _ no) ∙ string_ended c.args.body.now c.args.after.now c.requires.after

pub returns-in-92-clause-front : goal.returns-in-92-clause-front
returns-in-92-clause-front c =
    let yes : (slice_index c.args.after.now 1 == 92) ≡ true = grind (arith, nat_tests, c.in_ok-byte.ensures.some) in
    sym (cond-true _ _ _ yes) ∙ string_ended c.args.body.now c.args.after.now c.requires.after

pub returns-in_default-clause-front : goal.returns-in_default-clause-front
returns-in_default-clause-front c =
    let no : (slice_index c.args.after.now 1 == 92) ≡ false = grind (arith, nat_tests, c.in_ok-byte.ensures.some) in
    sym (cond-false _ _ _ no) ∙ string_ended c.args.body.now c.args.after.now c.requires.after
