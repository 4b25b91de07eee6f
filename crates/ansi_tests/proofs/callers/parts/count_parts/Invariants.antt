use Rattle.std.proofs.Common.{◌≡◌, ◌+◌, ◌≤◌, length}
use Rattle.ansi_str.specs.Plain.{plain}
use Rattle.ansi_str.specs.Parts.{all_parts}
use Rattle.ansi_tests.proofs.callers.parts.count_parts.Given as goal

-- the parts that were given, and those left, are all of them, which are few
abbrev pub invariant-loop-part : goal.invariant-loop-part
invariant-loop-part g l = record {
  all : l.count + length l.part-iterator ≡ length (all_parts l.text l.pat);
  few : length (all_parts l.text l.pat) ≤ length (plain l.text) + 2;
}
