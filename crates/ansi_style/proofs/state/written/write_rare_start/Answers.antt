use Rattle.ansi_style.proofs.Common.{true, refl, rendition_of}
use Rattle.ansi_style.proofs.WritingLemmas.{wrote_two}
use Rattle.ansi_style.proofs.WrittenLemmas.{start_by_rows}
use Rattle.ansi_style.proofs.state.written.write_rare_start.Goals as goal

pub returns-clause-wrote : goal.returns-clause-wrote
unfolding rendition_of
returns-clause-wrote g c = λ ok.
    let took = g.W.Sink.took in
    let colors_on = wrote_two took _ _ _ _ _ _ (c.in_ok-write_colors.ensures.wrote (refl {a = true})) (c.write_rows-4.ensures.wrote ok) refl in
    let shapes_on = wrote_two took _ _ _ _ _ _ (c.in_ok-write_rows-3.ensures.wrote (refl {a = true})) colors_on refl in
    let font_on = wrote_two took _ _ _ _ _ _ (c.in_ok-write_font.ensures.wrote (refl {a = true})) shapes_on refl in
    let letters_on = wrote_two took _ _ _ _ _ _ (c.in_ok-write_rows-2.ensures.wrote (refl {a = true})) font_on refl in
    wrote_two took _ _ _ _ _ _ (c.in_ok-write_rows.ensures.wrote (refl {a = true})) letters_on
    (rw (c.intersection.ensures tt, c.intersection-2.ensures tt, c.intersection-3.ensures tt, c.intersection-4.ensures tt, c.font.ensures) (start_by_rows c.args.style))
