use Rattle.std.proofs.Common.{drop, map}
use Rattle.std.specs.Cow.{cow_str_bytes, IsBorrowedStr}
use Rattle.ansi_str.proofs.EditWalkLemmas.{IsEditedSoFar}
use Rattle.ansi_text_calls.specs.Steps.{change_of_step}
use Rattle.ansi_text_calls.proofs.edits.edit_in_turn.Given as goal

-- some steps are done, and the steps that are left edit the text that those returned
abbrev pub invariant-loop-step : goal.invariant-loop-step
invariant-loop-step g l = IsEditedSoFar (map change_of_step l.steps) l.initial.text (map change_of_step (drop l.step-index l.steps)) (IsBorrowedStr l.edited) (cow_str_bytes l.edited)
