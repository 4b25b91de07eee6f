-- The edits by columns that a caller gives, as changes, and what the call does that makes them.
use Rattle.std.specs.Prelude.{ℕ, ◌==◌, List, ◌∷◌, map, filter_map, Option, None, Some, option_map, is_some, true, if◌then◌else◌}
use Rattle.std.specs.List.{list_all}
use Rattle.ansi_columns.specs.Edits.{Change, Expanded, Sliced, Truncated, Padded, Fitted, edited}
use Rattle.ansi_text_calls.specs.declared.answers.Answer.{Answer}
use Rattle.ansi_calls.specs.declared.column_edits.ColumnStep.{ColumnStep}
use Rattle.ansi_text_calls.specs.Answers.{refused, not_utf8, OnUtf8, HasFailed, Gives}
use Rattle.ansi_calls.specs.Columns.{alignment_of, side_of}

-- the change of a step, by the kinds of the header, if there is such a kind, alignment or side
abbrev pub change_of_step : ColumnStep → Option Change
change_of_step step =
    if step.kind == 0 then Some (Expanded step.first) else
    if step.kind == 1 then Some (Sliced step.first (Some step.second)) else
    if step.kind == 2 then option_map (λ side. Truncated side step.first step.tail.now) (side_of step.place) else
    if step.kind == 3 then option_map (λ alignment. Padded step.first alignment) (alignment_of step.place) else
    if step.kind == 4 then option_map (λ alignment. Fitted step.first alignment step.tail.now) (alignment_of step.place) else
    None

-- the changes of steps, if each is one
abbrev pub changes_of_steps : List ColumnStep → Option (List Change)
changes_of_steps steps = if list_all (λ step. is_some (change_of_step step)) steps then Some (filter_map change_of_step steps) else None

-- the tail of a step, whether the step uses it or not
abbrev pub tail_of : ColumnStep → List ℕ
tail_of step = step.tail.now

-- the tails of steps
abbrev pub tails_of : List ColumnStep → List (List ℕ)
tails_of steps = map tail_of steps

-- a call writes the text t after all steps, and may allocate for any text; it is refused if a step is no change
unfoldable pub GivesColumnsEdited : List ℕ → List ColumnStep → Answer → List ℕ → List ℕ → Type 0
GivesColumnsEdited t steps answer old new = Gives refused true (option_map (λ changes. edited changes t) (changes_of_steps steps)) answer old new

-- `edit_columns` does so
abbrev pub EditsColumns : List ℕ → List ColumnStep → Answer → List ℕ → List ℕ → Type 0
EditsColumns t steps answer old new = OnUtf8 (t ∷ tails_of steps) (GivesColumnsEdited t steps answer old new) (HasFailed not_utf8 answer old new)
