use Rattle.ansi_style.proofs.Common.{◌∙◌, min, sym, true≢false, arith, rendition_of, with_attributes}
use Rattle.ansi_style.specs.Sets.{difference}
use Rattle.ansi_style.specs.States.{with_font}
use Rattle.ansi_style.proofs.BitsLemmas.{has-without_those}
use Rattle.ansi_style.proofs.StyleLemmas.{unless_same_in_range}
use Rattle.ansi_style.proofs.styles.difference.Goals as goal

-- no font has the code 0
pub with_font-requires : goal.with_font-requires
with_font-requires c = λ is.
    true≢false (sym (unless_same_in_range _ _ _ (rw (c.font.ensures, c.font-2.ensures) at c.font_unless_same-font.ensures) c.args.style.now.font_in_range 0 is))

-- the places of attributes are below 24
pub returns : goal.returns
unfolding rendition_of
returns c =
    let style = c.args.style.now in
    let other = c.args.other.now in
    let set = rw (c.difference.ensures, c.intersection-shown.ensures) at c.with_font.ensures.attributes in
    let font = rw (c.font_unless_same-font.ensures, c.font.ensures, c.font-2.ensures) at c.with_font.ensures.font in
    rw (c.color_unless_same.ensures, c.color_unless_same-2.ensures, c.color_unless_same-3.ensures)
    (λ i. with_attributes (λ place. (set (min place 23) (omega arith) ∙ has-without_those style.attributes.0 other.attributes.0 0x3fffff (min place 23) (omega arith) (omega arith)) i)
    (with_font (font i) (difference (rendition_of style) (rendition_of other))))

pub invariant_of-result : goal.invariant_of-result
invariant_of-result c = record {
  foreground_in_range = unless_same_in_range _ _ _ c.color_unless_same.ensures c.args.style.now.foreground_in_range;
  background_in_range = unless_same_in_range _ _ _ c.color_unless_same-2.ensures c.args.style.now.background_in_range;
  underline_color_in_range = unless_same_in_range _ _ _ c.color_unless_same-3.ensures c.args.style.now.underline_color_in_range;
  font_in_range = unless_same_in_range _ _ _ (rw (c.font_unless_same-font.ensures, c.font.ensures, c.font-2.ensures) at c.with_font.ensures.font) c.args.style.now.font_in_range;
}
