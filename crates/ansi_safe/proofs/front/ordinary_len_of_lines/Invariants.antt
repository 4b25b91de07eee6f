use Rattle.std.proofs.Common.{◌-◌, ◌≤◌, length, true}
use Rattle.std.specs.List.{prefix_len}
use Rattle.ansi_safe.specs.Safe.{is_ordinary_byte}
use Rattle.ansi_safe.proofs.front.ordinary_len_of_lines.Given as goal

-- all bytes before are ordinary
abbrev pub invariant-loop-known : goal.invariant-loop-known
invariant-loop-known l = l.known ≤ prefix_len (is_ordinary_byte true) l.bytes

abbrev pub decreases-loop-known : goal.decreases-loop-known
decreases-loop-known l = length l.bytes - l.known
