use Rattle.ansi_items.proofs.Common.{◌≡◌, ◌+◌, ◌<◌, ◌⊎◌, false, refl, ◌∙◌, arith, nat_tests, slice_index, opens_control_sequence, opens_control_string}
use Rattle.ansi_items.proofs.MarkLemmas.{mark_escape, mark_lone}
use Rattle.ansi_items.proofs.ansitok.grammar.front_of_other.Goals as goal

pub returns-in-Some-32-to-126 : goal.returns-in-Some-32-to-126
returns-in-Some-32-to-126 c =
    let b = slice_index c.args.text.now (c.args.start + 1) in
    let no_control : opens_control_sequence b ≡ false = grind (arith, nat_tests, c.requires.other) in
    let no_string : opens_control_string b ≡ false = grind (arith, nat_tests, c.byte.ensures) in
    c.unwrap_or.ensures ∙ mark_escape c.args.text.now c.args.start b c.requires.escape refl _ no_control no_string c.escape_sequence.ensures.front

-- a byte that follows no ESC of a sequence, or none

pub returns-in-Some : goal.returns-in-Some
returns-in-Some c =
    let b = slice_index c.args.text.now (c.args.start + 1) in
    let outside : (b < 0x20) ⊎ (0x7E < b) = grind (arith, nat_tests, c.byte.ensures) in
    mark_lone c.args.text.now c.args.start b c.requires.escape refl outside

pub returns-in-Some-2 : goal.returns-in-Some-2
returns-in-Some-2 c =
    let b = slice_index c.args.text.now (c.args.start + 1) in
    let outside : (b < 0x20) ⊎ (0x7E < b) = grind (arith, nat_tests, c.byte.ensures) in
    mark_lone c.args.text.now c.args.start b c.requires.escape refl outside

pub returns-in-Some-3 : goal.returns-in-Some-3
returns-in-Some-3 c =
    let b = slice_index c.args.text.now (c.args.start + 1) in
    let outside : (b < 0x20) ⊎ (0x7E < b) = grind (arith, nat_tests, c.byte.ensures) in
    mark_lone c.args.text.now c.args.start b c.requires.escape refl outside
