use Rattle.ansi_style.proofs.DecimalLemmas.{two_digits}
use Rattle.ansi_style.proofs.WritingLemmas.{wrote_once, wrote_two}
use Rattle.ansi_style.proofs.Common.{arith, refl}
use Rattle.ansi_style.proofs.state.written.write_code.Goals as goal

-- one digit or three
pub returns-then-code-lt10-clause-wrote : goal.returns-then-code-lt10-clause-wrote
returns-then-code-lt10-clause-wrote g c = λ ok.
    wrote_two g.W.Sink.took _ _ _ _ _ _ (wrote_once g.W.Sink.took _ _ _ c.in_ok-write.ensures.took) (c.write_number.ensures.wrote ok) refl

-- two digits, in pieces
pub returns-then-IN_PIECES-clause-wrote : goal.returns-then-IN_PIECES-clause-wrote
returns-then-IN_PIECES-clause-wrote g c = λ ok.
    rw (← two_digits c.args.code (omega arith) (omega arith))
    (wrote_two g.W.Sink.took _ _ _ _ _ _ (wrote_once g.W.Sink.took _ _ _ c.in_ok-write-2.ensures.took) (c.write_ended.ensures.wrote ok) refl)

-- two digits, at once
pub returns-clause-wrote : goal.returns-clause-wrote
returns-clause-wrote g c = λ ok. rw (← two_digits c.args.code (omega arith) (omega arith)) (c.write_ascii.ensures.wrote ok)
