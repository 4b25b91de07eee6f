use Rattle.ansi_style.proofs.Common.{refl, true, rendition_of}
use Rattle.ansi_style.specs.Numbers.{color_of_numbers}
use Rattle.ansi_style.proofs.WritingLemmas.{color_sequences, wrote_two}
use Rattle.ansi_style.proofs.state.written.write_colors.Goals as goal

-- the codes of the three colors come in this order
pub returns-clause-wrote : goal.returns-clause-wrote
unfolding rendition_of
returns-clause-wrote g c = λ ok.
    let took = g.W.Sink.took in
    let s = c.args.style.now in
    let after_first = wrote_two took _ _ _ _ _ _ (c.in_ok-write_color-2.ensures.wrote (refl {a = true})) (c.write_color-3.ensures.wrote ok) refl in
    wrote_two took _ _ _ _ _ _ (c.in_ok-write_color.ensures.wrote (refl {a = true})) after_first (rw (c.color.ensures, c.color-2.ensures, c.color-3.ensures) (color_sequences (color_of_numbers s.foreground) (color_of_numbers s.background) (color_of_numbers s.underline_color)))
