use Rattle.std.proofs.Common.{◌≡◌, drop}
use Rattle.std.specs.List.{list_all}
use Rattle.std.specs.Str.{is_utf8}
use Rattle.ansi_text_calls.specs.Steps.{patterns_of}
use Rattle.ansi_text_calls.proofs.edits.are_patterns_utf8.Given as goal

-- the patterns so far are UTF-8, so those that are left decide
abbrev pub invariant-loop-step : goal.invariant-loop-step
invariant-loop-step l = list_all is_utf8 (patterns_of l.steps) ≡ list_all is_utf8 (patterns_of (drop l.step-index l.steps))
