use Rattle.std.proofs.Common.{◌≡◌, map, take}
use Rattle.ansi_safe.specs.Sanitized.{sanitized}
use Rattle.ansi_lines_runs.specs.Runs.{words_of}
use Rattle.ansi_view_runs.specs.Edits.{changes_of, tail_of}
use Rattle.ansi_view_runs.proofs.tails.safe_tails.Given as goal

-- the tails so far are safe
abbrev pub invariant-loop-edit : goal.invariant-loop-edit
invariant-loop-edit g l = record {
  made : words_of l.tails.items ≡ map (λ change. sanitized l.policy (tail_of change)) (changes_of (take l.edit-index l.edits));
}
