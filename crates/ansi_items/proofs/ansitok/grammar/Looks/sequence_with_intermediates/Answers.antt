use Rattle.ansi_items.proofs.Common.{refl, arith, nat_tests}
use Rattle.ansi_items.proofs.BetweenLemmas.{control_within}
use Rattle.ansi_items.proofs.FrontLemmas.{not_alone, control_at-later}
use Rattle.ansi_items.proofs.ansitok.grammar.Looks.sequence_with_intermediates.Goals as goal

-- the final byte follows the intermediate ones
pub returns-in-64-to-126-clause-front : goal.returns-in-64-to-126-clause-front
returns-in-64-to-126-clause-front c =
    control_at-later _ _ _ _ c.requires.parameters (not_alone _ _ _ _ refl c.requires.inside c.requires.intermediate c.intermediates_len-intermediates.ensures.len)
    c.in_ok-byte.ensures.some.0 (grind (arith, nat_tests))

-- what was given up is before the next ESC
pub returns-in_err-byte-clause-few : goal.returns-in_err-byte-clause-few
returns-in_err-byte-clause-few c =
    let within = control_within c.args.bytes.now c.args.parameters _ c.intermediates_len-intermediates.result c.requires.parameters refl c.requires.inside c.requires.intermediate c.intermediates_len-intermediates.ensures.len in
    grind arith

pub returns-in_default-clause-few : goal.returns-in_default-clause-few
returns-in_default-clause-few c =
    let within = control_within c.args.bytes.now c.args.parameters _ c.intermediates_len-intermediates.result c.requires.parameters refl c.requires.inside c.requires.intermediate c.intermediates_len-intermediates.ensures.len in
    grind arith

pub returns-in_default-2-clause-few : goal.returns-in_default-2-clause-few
returns-in_default-2-clause-few c =
    let within = control_within c.args.bytes.now c.args.parameters _ c.intermediates_len-intermediates.result c.requires.parameters refl c.requires.inside c.requires.intermediate c.intermediates_len-intermediates.ensures.len in
    grind arith
