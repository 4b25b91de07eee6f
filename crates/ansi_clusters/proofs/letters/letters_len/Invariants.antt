use Rattle.std.proofs.Common.{◌-◌, ◌≤◌, length}
use Rattle.std.specs.List.{prefix_len}
use Rattle.ansi_clusters.specs.Letters.{is_letter_byte}
use Rattle.ansi_clusters.proofs.letters.letters_len.Given as goal

-- all bytes before are in the set
abbrev pub invariant-loop-at : goal.invariant-loop-at
invariant-loop-at l = l.at ≤ prefix_len is_letter_byte l.bytes

abbrev pub decreases-loop-at : goal.decreases-loop-at
decreases-loop-at l = length l.bytes - l.at
