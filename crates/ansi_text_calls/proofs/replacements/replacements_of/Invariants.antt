use Rattle.std.proofs.Common.{◌≡◌, ◌++◌, drop}
use Rattle.ansi_restyle.specs.ReplacedEach.{swaps_of}
use Rattle.ansi_text_calls.specs.Replacements.{swaps_of_entries}
use Rattle.ansi_text_calls.proofs.replacements.replacements_of.Given as goal

-- the replacements so far and those of the entries that are left are all of them
abbrev pub invariant-loop-entry : goal.invariant-loop-entry
invariant-loop-entry g l = swaps_of l.edits.items ++ swaps_of_entries (drop l.entry-index l.entries) ≡ swaps_of_entries l.entries
