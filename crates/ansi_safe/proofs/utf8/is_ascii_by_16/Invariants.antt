use Rattle.std.proofs.Common.{length}
use Rattle.ansi_safe.proofs.AsciiLemmas.{IsAsciiSoFar}
use Rattle.ansi_safe.proofs.utf8.is_ascii_by_16.Given as goal

abbrev pub invariant-loop-rest : goal.invariant-loop-rest
invariant-loop-rest l = IsAsciiSoFar l.bytes l.rest

abbrev pub decreases-loop-rest : goal.decreases-loop-rest
decreases-loop-rest l = length l.rest
