use Rattle.std.proofs.Common.{◌≡◌, ◌++◌, drop}
use Rattle.ansi_text_calls.specs.Restyles.{ranges_of}
use Rattle.ansi_text_calls.proofs.restyles.ranges_of.Given as goal

-- the ranges so far and those of the entries that are left are all ranges
abbrev pub invariant-loop-entry : goal.invariant-loop-entry
invariant-loop-entry g l = l.ranges.items ++ ranges_of (drop l.entry-index l.entries) ≡ ranges_of l.entries
