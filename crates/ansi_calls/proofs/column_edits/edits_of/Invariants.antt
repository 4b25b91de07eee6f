use Rattle.std.proofs.Common.{◌≡◌, ◌++◌, drop}
use Rattle.std.specs.Prelude.{option_map}
use Rattle.ansi_columns.specs.Edits.{changes_of}
use Rattle.ansi_calls.specs.ColumnSteps.{changes_of_steps}
use Rattle.ansi_calls.proofs.column_edits.edits_of.Given as goal

-- the changes so far, and those of the steps that are left, are all changes, if each step that is left is one
abbrev pub invariant-loop-step : goal.invariant-loop-step
invariant-loop-step g l = option_map (λ left. changes_of l.edits.items ++ left) (changes_of_steps (drop l.step-index l.steps)) ≡ changes_of_steps l.steps
