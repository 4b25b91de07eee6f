use Rattle.std.proofs.Common.{◌≤◌, sym, ◌∙◌, ap, take, drop, arith}
use Rattle.ansi_search.proofs.PositionLemmas.{boundary_test}
use Rattle.ansi_split.proofs.RestLemmas.{boundary-drop, no_escape-drop}
use Rattle.ansi_restyle.proofs.RestLemmas.{offset_in_run, good_in_run}
use Rattle.ansi_restyle.proofs.rest.Rest.divide_run.Goals as goal

-- in the run, the position is its offset

pub returns-then-not-is_char_boundary : goal.returns-then-not-is_char_boundary
returns-then-not-is_char_boundary c =
    let s = c.args.self.now in
    let n = c.args.position in
    let within : n ≤ s.run_len = omega (arith, c.requires) in
    sym (good_in_run s.text.now s.run_len n s.run_ends.0 s.run_is_plain c.requires)
    ∙ sym (boundary_test s.text.now n c.is_char_boundary.result (omega (arith, within, s.run_ends.0)) c.is_char_boundary.ensures.test) ∙ c.if-not-is_char_boundary.true

pub invariant_of-rest : goal.invariant_of-rest
invariant_of-rest c =
    let s = c.args.self.now in
    let n = c.args.position in
    let before : n ≤ s.run_len = omega (arith, c.requires) in
    rw c.split_at.ensures.back (record {
      run_ends = boundary-drop s.text.now n s.run_len before s.run_ends;
      run_is_plain = no_escape-drop s.text.now n s.run_len s.run_is_plain;
    })

pub returns : goal.returns
returns c =
    let s = c.args.self.now in
    let n = c.args.position in
    let within : n ≤ s.run_len = omega (arith, c.requires) in
    let at = offset_in_run s.text.now s.run_len n s.run_ends.0 s.run_is_plain c.requires in
    record {
      good = sym (good_in_run s.text.now s.run_len n s.run_ends.0 s.run_is_plain c.requires)
          ∙ sym (boundary_test s.text.now n c.is_char_boundary.result (omega (arith, within, s.run_ends.0)) c.is_char_boundary.ensures.test) ∙ c.if-not-is_char_boundary.false;
      front_is = c.split_at.ensures.front ∙ ap (λ k. take k s.text.now) at;
      rest_is = c.split_at.ensures.back ∙ ap (λ k. drop k s.text.now) at;
    }
