use Rattle.std.proofs.Common.{◌≡◌, drop}
use Rattle.ansi_restyle.specs.ReplacedEach.{swaps_of, swap_nothing}
use Rattle.ansi_restyle.proofs.replace_each.edit_nothing.Given as goal

-- those so far are nothing, so those that are left decide
abbrev pub invariant-loop-edit : goal.invariant-loop-edit
invariant-loop-edit l = swap_nothing (swaps_of l.edits) ≡ swap_nothing (swaps_of (drop l.edit-index l.edits))
