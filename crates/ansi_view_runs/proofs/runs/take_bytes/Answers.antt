use Rattle.std.proofs.Common.{rules}
use Rattle.ansi_view_runs.proofs.Shown.{nothing_shown}
use Rattle.ansi_view_runs.proofs.runs.take_bytes.Goals as goal

-- nothing is written
pub returns-in_err-extend_from_slice-clause-stopped : goal.returns-in_err-extend_from_slice-clause-stopped
returns-in_err-extend_from_slice-clause-stopped g c = search (rules, nothing_shown)
