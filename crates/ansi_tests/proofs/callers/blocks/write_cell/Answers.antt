use Rattle.std.proofs.Common.{◌∙◌, arith}
use Rattle.std.proofs.lemmas.Grind.{common_steps}
use Rattle.ansi_tests.proofs.callers.blocks.write_cell.Goals as goal

-- the start and the end are those of the block's style
pub returns : goal.returns
returns c =
    let shown = rw (c.start.ensures ∙ c.style-style.ensures, c.end.ensures ∙ c.style-style.ensures, c.text.ensures) at c.write.ensures.bytes in
    grind (arith, common_steps)
