use Rattle.ansi_split.proofs.Common.{◌≤◌, arith}
use Rattle.ansi_split.proofs.RestLemmas.{boundary-drop, no_escape-drop, no_escape-take}
use Rattle.ansi_split.proofs.split.rest.Rest.cut_in_run.Goals as goal

-- what is left of the run goes on after the cut
pub invariant_of-result : goal.invariant_of-result
invariant_of-result c =
    let s = c.args.self.now in
    let start = c.next_start-start.result in
    rw c.split_at.ensures.back (record {
      run_ends = boundary-drop s.text.now start s.run_len (omega arith) s.run_ends;
      run_is_plain = no_escape-drop s.text.now start s.run_len s.run_is_plain;
    })

-- the front is a part of the run
pub returns : goal.returns
returns c =
    let s = c.args.self.now in
    let start = c.next_start-start.result in
    let before : start ≤ s.run_len = omega arith in
    rw (c.split_at.ensures.front, c.split_at.ensures.back) (c.next_start-start.ensures.cut (omega arith), no_escape-take s.text.now start s.run_len before s.run_is_plain)
