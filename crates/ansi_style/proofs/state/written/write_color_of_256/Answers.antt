use Rattle.ansi_style.proofs.Common.{refl, true}
use Rattle.ansi_style.proofs.WritingLemmas.{wrote_two}
use Rattle.ansi_style.proofs.state.written.write_color_of_256.Goals as goal

-- a number after what begins the sequence
pub returns-clause-wrote : goal.returns-clause-wrote
returns-clause-wrote g c = λ ok.
    wrote_two g.W.Sink.took _ _ _ _ _ _ (c.in_ok-write_color_front.ensures.wrote (refl {a = true})) (c.write_number.ensures.wrote ok) refl
