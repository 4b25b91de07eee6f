use Rattle.std.proofs.Common.{◌≤◌, ◌↔◌, length, take}
use Rattle.std.specs.Str.{IsUtf8}
use Rattle.ansi_safe.proofs.utf8.before_ascii_16.Given as goal

-- all bytes after these are ASCII
abbrev pub invariant-loop-end : goal.invariant-loop-end
invariant-loop-end l = (l.end ≤ length l.bytes) × (IsUtf8 (take l.end l.bytes) ↔ IsUtf8 l.bytes)

abbrev pub decreases-loop-end : goal.decreases-loop-end
decreases-loop-end l = l.end
