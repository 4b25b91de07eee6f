use Rattle.ansi_search.proofs.Common.{◌+◌, ◌-◌, ◌*◌, length, slice_index, IsScan, Precedes}
use Rattle.ansi_search.proofs.search.critical.greatest_suffix.Given as goal

-- the greatest suffix of the bytes before the candidate, and how much of it the candidate begins with
abbrev pub invariant-loop-candidate : goal.invariant-loop-candidate
invariant-loop-candidate l = IsScan (Precedes l.is_rising) (slice_index l.bytes) (length l.bytes) l.start l.period l.candidate l.offset

abbrev pub decreases-loop-candidate : goal.decreases-loop-candidate
decreases-loop-candidate l = 2 * length l.bytes + 1 - (l.start + l.candidate + l.offset)
