use Rattle.std.proofs.lemmas.List.{take-append-drop}
use Rattle.ansi_style.proofs.Common.{refl, true}
use Rattle.ansi_style.proofs.WritingLemmas.{wrote_two}
use Rattle.ansi_style.proofs.state.written.write_ended.Goals as goal

-- the two pieces
pub returns-then-IN_PIECES-clause-wrote : goal.returns-then-IN_PIECES-clause-wrote
returns-then-IN_PIECES-clause-wrote g c = λ ok.
    wrote_two g.W.Sink.took _ _ _ _ _ _ (c.in_ok-write_ascii.ensures.wrote (refl {a = true})) (c.write_ascii-then-IN_PIECES.ensures.wrote ok)
    (rw (c.split_at.ensures.front, c.split_at.ensures.back) (take-append-drop _ c.args.bytes.now))
