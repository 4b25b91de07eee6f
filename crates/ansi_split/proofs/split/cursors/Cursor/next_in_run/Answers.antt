use Rattle.ansi_split.proofs.Common.{[], ap, if◌then◌else◌}
use Rattle.ansi_split.proofs.SpanLemmas.{parts_left-again}
use Rattle.ansi_split.proofs.split.cursors.Cursor.next_in_run.Goals as goal

-- the next match is the same
pub returns-in-Err-clause-parts : goal.returns-in-Err-clause-parts
returns-in-Err-clause-parts c =
    let s = c.args.self.now in
    λ r. ap (λ ps. if s.finished then [] else ps) (parts_left-again r s.rest.text.now c.args.pat.now s.skip s.from c.in-Err.later c.in-Err.ensures.1)
