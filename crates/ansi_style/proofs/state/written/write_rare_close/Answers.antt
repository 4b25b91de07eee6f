use Rattle.ansi_style.proofs.Common.{true, refl, rendition_of}
use Rattle.ansi_style.proofs.WritingLemmas.{wrote_two}
use Rattle.ansi_style.proofs.WrittenLemmas.{close_by_rows}
use Rattle.ansi_style.proofs.state.written.write_rare_close.Goals as goal

pub returns-clause-wrote : goal.returns-clause-wrote
unfolding rendition_of
returns-clause-wrote g c = λ ok.
    let took = g.W.Sink.took in
    let reset = rw c.is_unknown_after_reset.ensures at (c.in_ok-write_when.ensures.wrote (refl {a = true})) in
    let font = rw c.has_font.ensures at (c.in_ok-write_when-2.ensures.wrote (refl {a = true})) in
    let intensity = rw c.intersects.ensures at (c.in_ok-write_when-3.ensures.wrote (refl {a = true})) in
    let letters = rw (c.intersection.ensures tt) at (c.in_ok-write_rows.ensures.wrote (refl {a = true})) in
    let foreground = rw c.is_some.ensures at (c.in_ok-write_when-4.ensures.wrote (refl {a = true})) in
    let background = rw c.is_some-2.ensures at (c.in_ok-write_when-5.ensures.wrote (refl {a = true})) in
    let frames = rw (c.intersection-2.ensures tt) at (c.in_ok-write_rows-2.ensures.wrote (refl {a = true})) in
    let underline_color = rw c.is_some-3.ensures at (c.in_ok-write_when-6.ensures.wrote (refl {a = true})) in
    let ends = rw (c.intersection-3.ensures tt) at (c.write_rows-3.ensures.wrote ok) in
    let underline_color_on = wrote_two took _ _ _ _ _ _ underline_color ends refl in
    let frames_on = wrote_two took _ _ _ _ _ _ frames underline_color_on refl in
    let background_on = wrote_two took _ _ _ _ _ _ background frames_on refl in
    let foreground_on = wrote_two took _ _ _ _ _ _ foreground background_on refl in
    let letters_on = wrote_two took _ _ _ _ _ _ letters foreground_on refl in
    let intensity_on = wrote_two took _ _ _ _ _ _ intensity letters_on refl in
    let font_on = wrote_two took _ _ _ _ _ _ font intensity_on refl in
    wrote_two took _ _ _ _ _ _ reset font_on (close_by_rows c.args.style)
