use Rattle.std.proofs.Common.{◌≡◌, length}
use Rattle.ansi_str.specs.Scans.{pieces_left}
use Rattle.ansi_tests.proofs.callers.scans.full_scan_reads.Given as goal

abbrev pub invariant-loop : goal.invariant-loop
invariant-loop l = l.scanner.text ≡ l.text

-- each item takes a piece
abbrev pub decreases-loop : goal.decreases-loop
decreases-loop l = length (pieces_left l.scanner)
