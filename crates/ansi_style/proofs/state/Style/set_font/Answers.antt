use Rattle.ansi_style.proofs.Common.{min, sym, true≢false, arith, rendition_of, with_attributes}
use Rattle.ansi_style.specs.States.{with_font}
use Rattle.ansi_style.proofs.state.Style.set_font.Goals as goal

-- no font has the code 0
pub with_font-self-requires : goal.with_font-self-requires
with_font-self-requires c = λ is. true≢false (sym (c.requires 0 is))

pub returns : goal.returns
unfolding rendition_of
returns c = λ i.
    with_attributes (λ place. c.with_font-self.ensures.attributes (min place 23) (omega arith) i)
    (with_font (c.with_font-self.ensures.font i) (rendition_of c.args.self.now))
