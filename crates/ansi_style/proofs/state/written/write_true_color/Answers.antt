use Rattle.ansi_style.proofs.Common.{refl, true}
use Rattle.ansi_style.proofs.WritingLemmas.{wrote_two}
use Rattle.ansi_style.proofs.state.written.write_true_color.Goals as goal

-- the three parts
pub returns-clause-wrote : goal.returns-clause-wrote
returns-clause-wrote g c = λ ok.
    let took = g.W.Sink.took in
    let green_on = wrote_two took _ _ _ _ _ _ (c.in_ok-write_number-2.ensures.wrote (refl {a = true})) (c.write_number-3.ensures.wrote ok) refl in
    let red_on = wrote_two took _ _ _ _ _ _ (c.in_ok-write_number.ensures.wrote (refl {a = true})) green_on refl in
    wrote_two took _ _ _ _ _ _ (c.in_ok-write_color_front.ensures.wrote (refl {a = true})) red_on refl
