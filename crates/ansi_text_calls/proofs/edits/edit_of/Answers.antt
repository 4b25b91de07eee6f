use Rattle.std.proofs.Common.{arith, ◌≡◌, ◌≢◌, Some}
use Rattle.std.proofs.lemmas.Bool.{ne_eqb}
use Rattle.ansi_str.specs.Changes.{CutRange}
use Rattle.ansi_text_calls.specs.declared.edits.EditStep.{EditStep}
use Rattle.ansi_text_calls.specs.Steps.{change_of_step}
use Rattle.ansi_text_calls.proofs.edits.edit_of.Goals as goal

of_no_kind : (step : EditStep) → step.kind ≢ 0 → step.kind ≢ 1 → step.kind ≢ 2 → step.kind ≢ 3 → step.kind ≢ 4 → step.kind ≢ 5 → step.kind ≢ 6
    → CutRange 1 (Some 0) ≡ change_of_step step
of_no_kind step no0 no1 no2 no3 no4 no5 no6 = rw (ne_eqb _ 0 no0, ne_eqb _ 1 no1, ne_eqb _ 2 no2, ne_eqb _ 3 no3, ne_eqb _ 4 no4, ne_eqb _ 5 no5, ne_eqb _ 6 no6)

-- a step of no kind is a range that every text refuses
pub returns-in_default : goal.returns-in_default
returns-in_default c = of_no_kind c.args.step.now (omega arith) (omega arith) (omega arith) (omega arith) (omega arith) (omega arith) (omega arith)
