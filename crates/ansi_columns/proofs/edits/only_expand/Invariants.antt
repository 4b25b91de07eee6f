use Rattle.std.proofs.Common.{◌≡◌, length}
use Rattle.ansi_columns.specs.Edits.{changes_of, only_expand}
use Rattle.ansi_columns.proofs.edits.only_expand.Given as goal

-- the edits so far are expansions
abbrev pub invariant-edits : goal.invariant-edits
invariant-edits l = record {
  same : only_expand (changes_of l.left) ≡ only_expand (changes_of l.edits);
}

abbrev pub decreases-edits : goal.decreases-edits
decreases-edits l = length l.left
