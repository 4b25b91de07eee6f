use Rattle.ansi_style.proofs.Common.{◌<◌, ◌^◌, ◌∙◌, min, sym, arith, rendition_of, with_attributes}
use Rattle.ansi_style.specs.States.{with_font}
use Rattle.ansi_style.proofs.BitsLemmas.{has-without}
use Rattle.ansi_style.proofs.WordLemmas.{font-without}
use Rattle.ansi_style.proofs.state.Style.clear.Goals as goal

-- the places are below 32
pub returns : goal.returns
unfolding rendition_of
returns c =
    let old = c.args.self.now in
    let fits : c.args.attributes.0 < 2 ^ 32 = omega arith in
    rw c.remove.ensures (λ i. with_attributes (λ place. has-without old.attributes.0 c.args.attributes.0 (min place 31) fits (omega arith) i)
    (with_font (font-without old.attributes.0 c.args.attributes.0 c.requires i) (rendition_of old)))

pub invariant_of-self-clause-font_in_range : goal.invariant_of-self-clause-font_in_range
invariant_of-self-clause-font_in_range c = λ n is.
    let old = c.args.self.now in
    old.font_in_range n (sym (font-without old.attributes.0 c.args.attributes.0 c.requires) ∙ (rw c.remove.ensures at is))
