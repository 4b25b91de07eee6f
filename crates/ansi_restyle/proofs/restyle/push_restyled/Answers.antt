use Rattle.std.proofs.Common.{◌+◌, drop}
use Rattle.std.proofs.lemmas.List.{drop_more}
use Rattle.std.specs.List.{slice_index_or}
use Rattle.ansi_restyle.proofs.TurnLemmas.{first_range, good_at_start, good_at_end, restyled-range}
use Rattle.ansi_restyle.proofs.restyle.push_restyled.Goals as goal

-- the ends of the next range are good

pub overflow_sub-end : goal.overflow_sub-end
overflow_sub-end g c =
    let all = c.args.ranges.now in
    let i = c.loop-start.start-index in
    (first_range c.loop-start.invariant (slice_index_or all i (0, 0)) (drop (i + 1) all) (drop_more all i (0, 0) c.loop-start-test.true)).ends

pub push_range-requires-clause-start : goal.push_range-requires-clause-start
push_range-requires-clause-start g c =
    let all = c.args.ranges.now in
    let i = c.loop-start.start-index in
    good_at_start c.loop-start.invariant (slice_index_or all i (0, 0)) (drop (i + 1) all) (drop_more all i (0, 0) c.loop-start-test.true)

pub push_range-requires-clause-end : goal.push_range-requires-clause-end
push_range-requires-clause-end g c =
    let all = c.args.ranges.now in
    let i = c.loop-start.start-index in
    good_at_end c.loop-start.invariant (slice_index_or all i (0, 0)) (drop (i + 1) all) (drop_more all i (0, 0) c.loop-start-test.true)

-- so the range is written
pub loop-start-preserved : goal.loop-start-preserved
loop-start-preserved g c =
    let all = c.args.ranges.now in
    let i = c.loop-start.start-index in
    restyled-range c.loop-start.invariant (slice_index_or all i (0, 0)) (drop (i + 1) all) (drop_more all i (0, 0) c.loop-start-test.true)
    c.in_ok-rest.ensures.bytes c.in_ok-rest.ensures.style c.in_ok-rest.ensures.left
