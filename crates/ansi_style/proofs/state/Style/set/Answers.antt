use Rattle.ansi_style.proofs.Common.{◌∙◌, sym}
use Rattle.ansi_style.specs.States.{rendition_of, with_attributes, with_font}
use Rattle.ansi_style.proofs.BitsLemmas.{has-bit_or}
use Rattle.ansi_style.proofs.WordLemmas.{font-or}
use Rattle.ansi_style.proofs.state.Style.set.Goals as goal

pub returns : goal.returns
unfolding rendition_of
returns c =
    let old = c.args.self.now in
    rw c.insert.ensures (λ i. with_attributes (λ place. has-bit_or old.attributes.0 c.args.attributes.0 place i)
    (with_font (font-or old.attributes.0 c.args.attributes.0 c.requires i) (rendition_of old)))

pub invariant_of-self-clause-font_in_range : goal.invariant_of-self-clause-font_in_range
invariant_of-self-clause-font_in_range c = λ n is.
    let old = c.args.self.now in
    old.font_in_range n (sym (font-or old.attributes.0 c.args.attributes.0 c.requires) ∙ (rw c.insert.ensures at is))
