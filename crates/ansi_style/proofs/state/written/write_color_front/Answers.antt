use Rattle.ansi_style.proofs.Common.{refl, true}
use Rattle.ansi_style.proofs.WritingLemmas.{wrote_once, wrote_two}
use Rattle.ansi_style.proofs.state.written.write_color_front.Goals as goal

-- the three pieces
pub returns-then-IN_PIECES-clause-wrote : goal.returns-then-IN_PIECES-clause-wrote
returns-then-IN_PIECES-clause-wrote g c = λ ok.
    let took = g.W.Sink.took in
    let code_on = wrote_two took _ _ _ _ _ _ (c.in_ok-write_ascii.ensures.wrote (refl {a = true})) (c.write_ascii-then-IN_PIECES.ensures.wrote ok) refl in
    wrote_two took _ _ _ _ _ _ (wrote_once took _ _ _ c.in_ok-write.ensures.took) code_on refl
