use Rattle.std.proofs.Common.{◌∙◌, sym, ap, string_bytes}
use Rattle.std.proofs.lemmas.Result.{on_ok_weaker}
use Rattle.ansi_items.specs.Plain.{plain}
use Rattle.ansi_items.proofs.Utf8Lemmas.{IsUtf8-plain}
use Rattle.ansi_restyle.specs.Matches.{matches}
use Rattle.ansi_restyle.specs.Ranges.{are_in_turn}
use Rattle.ansi_restyle.specs.ReplacedEach.{swaps_with}
use Rattle.ansi_restyle.proofs.ReplacedAllLemmas.{begun-with, with_in_turn}
use Rattle.ansi_restyle.proofs.ReplacedEachLemmas.{replaced-begin, replaced-step, replaced-end, good_last, good_place, begins_at, ends_at}
use Rattle.ansi_restyle.proofs.replace_all.push_replaced_all.Goals as goal

pub loop-range-init : goal.loop-range-init
loop-range-init g c =
    let t = c.args.text.now in
    let w = c.args.with.now in
    let rs = matches (plain t) c.args.pat.now in
    let all = c.new-range-items.ensures in
    let begins = c.into_iter-range-iterator.ensures.into_iter_gives ∙ all.matches in
    let begun = c.in_ok-replacing.ensures in
    begun-with w rs begins
    (replaced-begin t (swaps_with w rs) (string_bytes c.args.out.now) _ _ (IsUtf8-plain t c.utf8.text) (with_in_turn (plain t) w 0 rs (ap (are_in_turn (plain t) 0) (sym all.matches) ∙ all.in_turn)) (begun.bytes (swaps_with w rs)) begun.left begun.place begun.len)

-- the next match is good

pub put-requires-clause-begins : goal.put-requires-clause-begins
put-requires-clause-begins g c = begins_at c.loop-range.invariant (ap (swaps_with c.args.with.now) c.in-Some.ensures.steps)

pub put-requires-clause-ends : goal.put-requires-clause-ends
put-requires-clause-ends g c = ends_at c.loop-range.invariant (ap (swaps_with c.args.with.now) c.in-Some.ensures.steps)

pub put-requires-clause-good : goal.put-requires-clause-good
put-requires-clause-good g c = good_place c.loop-range.invariant (ap (swaps_with c.args.with.now) c.in-Some.ensures.steps)

pub put-requires-clause-len : goal.put-requires-clause-len
put-requires-clause-len g c = good_last c.loop-range.invariant

-- so it is replaced
pub loop-range-preserved : goal.loop-range-preserved
loop-range-preserved g c =
    let done = c.in_ok-put.ensures in
    replaced-step c.loop-range.invariant (ap (swaps_with c.args.with.now) c.in-Some.ensures.steps) (done.bytes _) done.left done.place done.len

-- no match is left

pub push_without_front-requires : goal.push_without_front-requires
push_without_front-requires g c = good_last c.loop-range.invariant

pub returns : goal.returns
returns g c = on_ok_weaker c.push_without_front.result (replaced-end c.loop-range.invariant (ap (swaps_with c.args.with.now) c.in-None.ensures.steps.0)) c.push_without_front.ensures
