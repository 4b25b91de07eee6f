use Rattle.std.proofs.Common.{rules, refl, sym}
use Rattle.std.proofs.lemmas.Bool.{true≢false}
use Rattle.ansi_str.proofs.EditWalkLemmas.{so_far-more, so_far-refused, so_far-lent, so_far-end}
use Rattle.ansi_text_calls.specs.Steps.{change_of_step, pattern_of}
use Rattle.ansi_text_calls.proofs.StepLemmas.{text-at}
use Rattle.ansi_text_calls.proofs.edits.edit_in_turn.Goals as goal

-- the text is a borrow
pub loop-step-init : goal.loop-step-init
loop-step-init g c = search rules

pub from_utf8_unchecked-pat-requires : goal.from_utf8_unchecked-pat-requires
from_utf8_unchecked-pat-requires g c = text-at pattern_of c.args.steps.now c.loop-step.step-index _ c.loop-step-test.true c.requires

pub loop-step-preserved : goal.loop-step-preserved
loop-step-preserved g c =
    so_far-more change_of_step c.args.steps.now c.loop-step.step-index _ c.loop-step.invariant c.loop-step-test.true
    (rw (c.in-Some.is, c.edit_of.ensures) at c.in_ok-next.ensures.bytes) (rw (c.in-Some.is, c.edit_of.ensures) at c.in_ok-next.ensures.borrowed)

-- if all steps leave a borrow, the call doesn't allocate
pub returns-in_err-next-clause-takes_no_memory : goal.returns-in_err-next-clause-takes_no_memory
returns-in_err-next-clause-takes_no_memory g c = λ stays.
    absurd (true≢false (sym ((rw c.edit_of.ensures at c.in_err-next.ensures.takes_no_memory) (so_far-lent change_of_step c.args.steps.now c.loop-step.step-index _ c.loop-step.invariant c.loop-step-test.true stays))))

-- a step that is refused
pub returns-in-None : goal.returns-in-None
returns-in-None g c = record {
  bytes = so_far-refused change_of_step c.args.steps.now c.loop-step.step-index _ c.loop-step.invariant c.loop-step-test.true (rw (c.in-None.is, c.edit_of.ensures) at c.in_ok-next.ensures.bytes);
  takes_no_memory = λ stays. refl;
}

-- all are done
pub returns : goal.returns
returns g c = record {
  bytes = (so_far-end change_of_step c.args.steps.now c.loop-step.step-index c.loop-step.invariant c.loop-step-test.false).0;
  takes_no_memory = λ stays. refl;
}
