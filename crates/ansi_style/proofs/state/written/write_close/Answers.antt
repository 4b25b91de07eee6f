use Rattle.ansi_style.proofs.Common.{true, refl, sym, ◌∙◌, or_parts, rendition_of}
use Rattle.ansi_style.proofs.WritingLemmas.{wrote_two}
use Rattle.ansi_style.proofs.WrittenLemmas.{close_of_common}
use Rattle.ansi_style.proofs.state.written.write_close.Goals as goal

-- nothing else is set
pub returns-clause-wrote : goal.returns-clause-wrote
unfolding rendition_of
returns-clause-wrote g c = λ ok.
    let took = g.W.Sink.took in
    let unset = or_parts c.has_font.result c.intersects.result c.if-has_font-intersects.false in
    let common = close_of_common c.args.style.now (sym c.has_font.ensures ∙ unset.0) (sym (c.intersects.ensures tt) ∙ unset.1) in
    let reset = rw c.is_unknown_after_reset.ensures at (c.in_ok-write_when.ensures.wrote (refl {a = true})) in
    let intensity = rw c.intersects-2.ensures at (c.in_ok-write_when-2.ensures.wrote (refl {a = true})) in
    let foreground = rw c.is_some.ensures at (c.in_ok-write_when-3.ensures.wrote (refl {a = true})) in
    let background = rw c.is_some-2.ensures at (c.in_ok-write_when-4.ensures.wrote (refl {a = true})) in
    let underline_color = rw c.is_some-3.ensures at (c.in_ok-write_when-5.ensures.wrote (refl {a = true})) in
    let ends = rw (c.intersection.ensures tt) at (c.write_rows.ensures.wrote ok) in
    let underline_color_on = wrote_two took _ _ _ _ _ _ underline_color ends refl in
    let background_on = wrote_two took _ _ _ _ _ _ background underline_color_on refl in
    let foreground_on = wrote_two took _ _ _ _ _ _ foreground background_on refl in
    let intensity_on = wrote_two took _ _ _ _ _ _ intensity foreground_on refl in
    wrote_two took _ _ _ _ _ _ reset intensity_on common
