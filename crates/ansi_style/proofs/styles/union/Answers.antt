use Rattle.ansi_style.proofs.Common.{◌∙◌, min, sym, true≢false, arith, rendition_of, with_attributes}
use Rattle.ansi_style.specs.Sets.{union}
use Rattle.ansi_style.specs.States.{with_font}
use Rattle.ansi_style.proofs.BitsLemmas.{has-united}
use Rattle.ansi_style.proofs.StyleLemmas.{or_in_range}
use Rattle.ansi_style.proofs.styles.union.Goals as goal

-- no font has the code 0
pub with_font-requires : goal.with_font-requires
with_font-requires c = λ is.
    true≢false (sym (or_in_range _ _ (rw (c.font.ensures, c.font-2.ensures) at c.or-font.ensures) c.args.over.now.font_in_range c.args.under.now.font_in_range 0 is))

-- the places of attributes are below 24
pub returns : goal.returns
unfolding rendition_of
returns c =
    let under = c.args.under.now in
    let over = c.args.over.now in
    let set = rw (c.union.ensures, c.intersection-shown.ensures) at c.with_font.ensures.attributes in
    let font = rw (c.or-font.ensures, c.font.ensures, c.font-2.ensures) at c.with_font.ensures.font in
    rw (c.or.ensures, c.or-2.ensures, c.or-3.ensures)
    (λ i. with_attributes (λ place. (set (min place 23) (omega arith) ∙ has-united under.attributes.0 over.attributes.0 0x3fffff (min place 23)) i)
    (with_font (font i) (union (rendition_of under) (rendition_of over))))

pub invariant_of-result : goal.invariant_of-result
invariant_of-result c = record {
  foreground_in_range = or_in_range _ _ c.or.ensures c.args.over.now.foreground_in_range c.args.under.now.foreground_in_range;
  background_in_range = or_in_range _ _ c.or-2.ensures c.args.over.now.background_in_range c.args.under.now.background_in_range;
  underline_color_in_range = or_in_range _ _ c.or-3.ensures c.args.over.now.underline_color_in_range c.args.under.now.underline_color_in_range;
  font_in_range = or_in_range _ _ (rw (c.or-font.ensures, c.font.ensures, c.font-2.ensures) at c.with_font.ensures.font) c.args.over.now.font_in_range c.args.under.now.font_in_range;
}
