use Rattle.ansi_items.proofs.Common.{◌≡◌, ◌+◌, ◌==◌, ◌&&◌, not, false, Some, ◌∙◌, ap, arith, nat_tests, are_private, front_of}
use Rattle.ansi_items.proofs.FrontLemmas.{control_at-final, unless_private}
use Rattle.ansi_items.proofs.ansitok.grammar.Looks.control_sequence.Goals as goal

-- the final byte follows the parameters
pub returns-in-109-clause-front : goal.returns-in-109-clause-front
returns-in-109-clause-front c =
    let t = c.args.bytes.now in
    let n = c.parameters_len-parameters.result in
    let private = are_private t in
    let is_sgr : not private ≡ ((c.in_ok-byte.field-0 == 109) && not private) = grind (arith, nat_tests) in
    ap (λ k. Some (front_of k (n + 3))) (c.kind_before_m.ensures.kind ∙ unless_private private)
    ∙ control_at-final t n c.in_ok-byte.field-0 (not private) c.parameters_len-parameters.ensures.len c.in_ok-byte.ensures.some.0 (grind (arith, nat_tests)) is_sgr

pub returns-in-64-to-126-clause-front : goal.returns-in-64-to-126-clause-front
returns-in-64-to-126-clause-front c =
    let t = c.args.bytes.now in
    let no_sgr : false ≡ ((c.in_ok-byte.field-0 == 109) && not (are_private t)) = grind (arith, nat_tests) in
    control_at-final t c.parameters_len-parameters.result c.in_ok-byte.field-0 false c.parameters_len-parameters.ensures.len c.in_ok-byte.ensures.some.0 (grind (arith, nat_tests)) no_sgr
