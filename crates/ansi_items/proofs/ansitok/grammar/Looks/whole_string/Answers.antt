use Rattle.ansi_items.proofs.Common.{◌≡◌, false, ◌++◌, refl, sym, ◌∙◌, ap, arith, nat_tests, prefix_len, string_at, is_body_byte, opens_command}
use Rattle.ansi_items.proofs.BetweenLemmas.{run_between, string_body}
use Rattle.ansi_items.proofs.ansitok.grammar.Looks.whole_string.Goals as goal

pub returns-in-93-clause-front : goal.returns-in-93-clause-front
returns-in-93-clause-front c =
    let u = c.args.body.now in
    let v = c.args.after.now in
    c.command.ensures.front ∙ ap (string_at (u ++ v)) (sym (run_between (is_body_byte 93) u v refl c.requires.after) ∙ ap (λ x. prefix_len (is_body_byte x) (u ++ v)) (sym c.in-93.is))

pub returns-in_default-clause-front : goal.returns-in_default-clause-front
returns-in_default-clause-front c =
    let u = c.args.body.now in
    let v = c.args.after.now in
    let other : opens_command c.args.opener ≡ false = grind (arith, nat_tests) in
    c.control_string.ensures.front ∙ ap (string_at (u ++ v)) (sym (string_body c.args.opener u v other c.requires.between c.requires.after))
