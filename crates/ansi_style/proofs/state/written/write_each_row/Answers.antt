use Rattle.ansi_style.proofs.Common.{refl, arith, common_steps, true}
use Rattle.ansi_style.proofs.WritingLemmas.{wrote_two}
use Rattle.ansi_style.proofs.state.written.write_each_row.Goals as goal

-- a row more
pub loop-attributes-preserved : goal.loop-attributes-preserved
loop-attributes-preserved g c = record {
  wrote = wrote_two g.W.Sink.took _ _ _ _ _ _ c.loop-attributes.invariant.wrote (c.in_ok-write_when.ensures.wrote (refl {a = true})) (grind (arith, common_steps));
  kept = λ front begins. c.in_ok-write_when.ensures.kept front (c.loop-attributes.invariant.kept front begins);
}
