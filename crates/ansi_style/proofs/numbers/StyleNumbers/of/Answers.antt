use Rattle.ansi_style.proofs.Common.{◌∙◌, arith, and_le_r}
use Rattle.ansi_style.proofs.NumbersLemmas.{same_rendition}
use Rattle.ansi_style.proofs.numbers.StyleNumbers.of.Goals as goal

-- no attribute is lost, and each other part is that of its numbers
pub returns-clause-rendition : goal.returns-clause-rendition
returns-clause-rendition c = search (same_rendition, c.bits.ensures, c.of.ensures.font ∙ c.font.ensures)

-- no other bit is left, and the numbers of each other part are exact
pub returns-clause-exact : goal.returns-clause-exact
returns-clause-exact c = record {
  attributes = omega (arith, and_le_r c.bits.result 16777215);
  foreground = search;
  background = search;
  underline_color = search;
  font = search;
}
