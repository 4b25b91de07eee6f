use Rattle.ansi_style.proofs.Common.{◌≡◌, false, arith, rules, nat_tests, rendition_of}
use Rattle.ansi_style.proofs.CodeLemmas.{effect_of_code-font, effect_of_code-foreground, effect_of_code-background, is_in_table, effect_of_code-outside}
use Rattle.ansi_style.proofs.state.Style.change.Goals as goal
use Rattle.ansi_style.proofs.state.Style.change.Goals.{then-code-lt38, else-code-lt38+else-code-lt48+else-code-lt90+then-code-lt98, then-code-lt48, else-code-lt48+else-code-lt90+else-code-lt98+else-code-lt100+then-code-lt108, in_default-via-then-code-lt90, in_default-via-else-code-lt90+else-code-lt98+then-code-lt100, in_default-via-else-code-lt90+else-code-lt98+else-code-lt100+else-code-lt108}

-- the bits of two attributes are cleared
pub returns-in-23 : goal.returns-in-23
unfolding rendition_of
returns-in-23 c = search rules

pub returns-in-11-to-19 : goal.returns-in-11-to-19
unfolding rendition_of
returns-in-11-to-19 c = rw (effect_of_code-font c.args.code (grind (arith, nat_tests)), c.set_font-in-11-to-19.ensures)

pub returns-in-30-to-37 : goal.returns-in-30-to-37
unfolding rendition_of
returns-in-30-to-37 c = rw (effect_of_code-foreground c.args.code (elim c.in-30-to-37-1.branch [ then-code-lt38 w ↦ grind (arith, nat_tests) | else-code-lt38+else-code-lt48+else-code-lt90+then-code-lt98 w ↦ grind (arith, nat_tests) ]), c.of_code-self-in-30-to-37.ensures)

pub returns-in-40-to-47 : goal.returns-in-40-to-47
unfolding rendition_of
returns-in-40-to-47 c = rw (effect_of_code-background c.args.code (elim c.in-40-to-47-1.branch [ then-code-lt48 w ↦ grind (arith, nat_tests) | else-code-lt48+else-code-lt90+else-code-lt98+else-code-lt100+then-code-lt108 w ↦ grind (arith, nat_tests) ]), c.of_code-self.ensures)

-- no row of the table has another code
pub returns-in_default : goal.returns-in_default
unfolding rendition_of
returns-in_default c =
    let outside : is_in_table c.args.code ≡ false = elim c.in_default.branch [
      | in_default-via-then-code-lt90 w ↦ grind (arith, nat_tests)
      | in_default-via-else-code-lt90+else-code-lt98+then-code-lt100 w ↦ grind (arith, nat_tests)
      | in_default-via-else-code-lt90+else-code-lt98+else-code-lt100+else-code-lt108 w ↦ grind (arith, nat_tests)
    ] in
    rw (effect_of_code-outside c.args.code (omega arith) outside) c.set-in_default.ensures
