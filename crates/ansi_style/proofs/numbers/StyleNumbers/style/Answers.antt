use Rattle.ansi_style.proofs.Common.{◌∙◌, min, sym, true≢false, arith, rendition_of, with_attributes}
use Rattle.ansi_style.specs.States.{rendition_of_numbers, with_font}
use Rattle.ansi_style.proofs.numbers.StyleNumbers.style.Goals as goal

-- no font has the code 0
pub with_font-requires : goal.with_font-requires
with_font-requires c = λ is. true≢false (sym (c.args.self.now.font_in_range 0 (sym c.font.ensures ∙ is)))

-- each part is that of the numbers; the places of attributes are below 24
pub returns : goal.returns
unfolding rendition_of
returns c = λ i.
    with_attributes (λ place. (rw c.from_bits_retain.ensures at c.with_font.ensures.attributes (min place 23) (omega arith)) i)
    (with_font ((c.with_font.ensures.font ∙ c.font.ensures) i) (rendition_of_numbers c.args.self.now))
