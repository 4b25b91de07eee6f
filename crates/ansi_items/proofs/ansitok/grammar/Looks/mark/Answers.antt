use Rattle.ansi_items.proofs.Common.{◌≡◌, ◌+◌, ◌<◌, ◌⊎◌, false, refl, ◌∙◌, arith, nat_tests, slice_index, opens_control_sequence, opens_control_string}
use Rattle.ansi_items.proofs.MarkLemmas.{mark_control, mark_escape, mark_lone}
use Rattle.ansi_items.proofs.ansitok.grammar.Looks.mark.Goals as goal

pub returns-in-Some-eq91-clause-front : goal.returns-in-Some-eq91-clause-front
returns-in-Some-eq91-clause-front c =
    c.ended.ensures.front ∙ mark_control c.args.text.now c.args.start c.in-Some-eq91.field-0 c.requires.escape c.in-Some-eq91.ensures.some.0 _ (omega arith) c.control_sequence-sequence.ensures.front

pub returns-in-Some-32-to-126-clause-front : goal.returns-in-Some-32-to-126-clause-front
returns-in-Some-32-to-126-clause-front c =
    let b = slice_index c.args.text.now (c.args.start + 1) in
    let no_control : opens_control_sequence b ≡ false = grind (arith, nat_tests, c.byte.ensures) in
    let no_string : opens_control_string b ≡ false = grind (arith, nat_tests, c.byte.ensures) in
    c.ended-in-Some-32-to-126.ensures.front ∙ mark_escape c.args.text.now c.args.start b c.requires.escape refl _ no_control no_string c.escape_sequence-sequence.ensures.front

pub returns-in-Some-clause-front : goal.returns-in-Some-clause-front
returns-in-Some-clause-front c =
    let b = slice_index c.args.text.now (c.args.start + 1) in
    let outside : (b < 0x20) ⊎ (0x7E < b) = grind (arith, nat_tests, c.byte.ensures) in
    c.ended-in-Some.ensures.front ∙ mark_lone c.args.text.now c.args.start b c.requires.escape refl outside
