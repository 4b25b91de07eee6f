-- The edits that a caller gives, as changes.
use Rattle.std.specs.Prelude.{ℕ, ◌==◌, List, Some, map, if◌then◌else◌}
use Rattle.ansi_str.specs.Changes.{Change, CutRange, LeftOf, RightOf, PartOf, WithoutPrefix, WithoutSuffix, Trimmed}
use Rattle.ansi_text_calls.specs.declared.edits.EditStep.{EditStep}

-- the change of a step, by the kinds of the header; a step of an unknown kind is refused for every text
abbrev pub change_of_step : EditStep → Change
change_of_step step =
    if step.kind == 0 then CutRange step.first (Some step.second) else
    if step.kind == 1 then LeftOf step.first else
    if step.kind == 2 then RightOf step.first else
    if step.kind == 3 then PartOf step.pattern.now step.first else
    if step.kind == 4 then WithoutPrefix step.pattern.now else
    if step.kind == 5 then WithoutSuffix step.pattern.now else
    if step.kind == 6 then Trimmed else
    CutRange 1 (Some 0)

-- the pattern of a step, whether the step uses it or not
abbrev pub pattern_of : EditStep → List ℕ
pattern_of step = step.pattern.now

-- the patterns of steps
abbrev pub patterns_of : List EditStep → List (List ℕ)
patterns_of steps = map pattern_of steps
