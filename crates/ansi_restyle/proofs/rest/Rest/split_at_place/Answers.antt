use Rattle.std.proofs.Common.{◌≤◌, ◌∙◌, ap, take, drop, arith}
use Rattle.ansi_split.proofs.RestLemmas.{boundary-drop, no_escape-drop}
use Rattle.ansi_restyle.proofs.ReplacedEachLemmas.{good_in_run_or_end, place_in_run, place_past_run}
use Rattle.ansi_restyle.proofs.rest.Rest.split_at_place.Goals as goal

-- in the run, and at its end, the place is the position

pub split_at-requires : goal.split_at-requires
split_at-requires c =
    let s = c.args.self.now in
    good_in_run_or_end s.text.now s.run_len c.args.position s.run_ends s.run_is_plain (omega arith) c.requires

pub invariant_of-result : goal.invariant_of-result
invariant_of-result c =
    let s = c.args.self.now in
    let n = c.args.position in
    let before : n ≤ s.run_len = omega arith in
    rw c.split_at.ensures.back (record {
      run_ends = boundary-drop s.text.now n s.run_len before s.run_ends;
      run_is_plain = no_escape-drop s.text.now n s.run_len s.run_is_plain;
    })

pub returns-then-position-self-clause-front : goal.returns-then-position-self-clause-front
returns-then-position-self-clause-front c =
    let s = c.args.self.now in
    c.split_at.ensures.front ∙ ap (λ k. take k s.text.now) (place_in_run s.text.now s.run_len c.args.position s.run_ends.0 s.run_is_plain (omega arith))

pub returns-then-position-self-clause-rest : goal.returns-then-position-self-clause-rest
returns-then-position-self-clause-rest c =
    let s = c.args.self.now in
    c.split_at.ensures.back ∙ ap (λ k. drop k s.text.now) (place_in_run s.text.now s.run_len c.args.position s.run_ends.0 s.run_is_plain (omega arith))

-- past it, the text is walked over

pub returns-clause-front : goal.returns-clause-front
returns-clause-front c =
    let s = c.args.self.now in
    c.split_at-2.ensures.front ∙ ap (λ k. take k s.text.now) (place_past_run s.text.now c.args.position s.run_len _ (omega arith) c.place_of.ensures.offset)

pub returns-clause-rest : goal.returns-clause-rest
returns-clause-rest c =
    let s = c.args.self.now in
    c.new.ensures ∙ c.split_at-2.ensures.back ∙ ap (λ k. drop k s.text.now) (place_past_run s.text.now c.args.position s.run_len _ (omega arith) c.place_of.ensures.offset)
