use Rattle.std.proofs.Common.{◌+◌, drop, string_bytes}
use Rattle.std.proofs.lemmas.Result.{on_ok_weaker}
use Rattle.ansi_items.proofs.Utf8Lemmas.{IsUtf8-plain}
use Rattle.ansi_restyle.specs.ReplacedEach.{swaps_of}
use Rattle.ansi_restyle.proofs.ReplacedEachLemmas.{replaced-begin, replaced-step, replaced-end, utf8-step, utf8-end, good_last, good_place, begins_at, ends_at, next_swaps, no_swaps}
use Rattle.ansi_restyle.proofs.replace_each.push_replaced_each.Goals as goal

pub loop-edit-init : goal.loop-edit-init
loop-edit-init g c =
    let t = c.args.text.now in
    let es = swaps_of c.args.edits.now in
    let begun = c.in_ok-replacing.ensures in
    record { so_far = replaced-begin t es (string_bytes c.args.out.now) _ _ (IsUtf8-plain t c.utf8.text) c.requires (begun.bytes es) begun.left begun.place begun.len; utf8 = λ all. all }

-- the next range is good

pub put-requires-clause-begins : goal.put-requires-clause-begins
put-requires-clause-begins g c = begins_at c.loop-edit.invariant.so_far (next_swaps c.args.edits.now c.loop-edit.edit-index _ c.loop-edit-test.true)

pub put-requires-clause-ends : goal.put-requires-clause-ends
put-requires-clause-ends g c = ends_at c.loop-edit.invariant.so_far (next_swaps c.args.edits.now c.loop-edit.edit-index _ c.loop-edit-test.true)

pub put-requires-clause-good : goal.put-requires-clause-good
put-requires-clause-good g c = good_place c.loop-edit.invariant.so_far (next_swaps c.args.edits.now c.loop-edit.edit-index _ c.loop-edit-test.true)

pub put-requires-clause-len : goal.put-requires-clause-len
put-requires-clause-len g c = good_last c.loop-edit.invariant.so_far

-- so it is replaced
pub loop-edit-preserved : goal.loop-edit-preserved
loop-edit-preserved g c =
    let done = c.in_ok-put.ensures in
    let i = c.loop-edit.edit-index in
    let next = next_swaps c.args.edits.now i _ c.loop-edit-test.true in
    record {
      so_far = replaced-step c.loop-edit.invariant.so_far next (done.bytes (swaps_of (drop (i + 1) c.args.edits.now))) done.left done.place done.len;
      utf8 = utf8-step (swaps_of c.args.edits.now) c.loop-edit.invariant.utf8 next done.utf8;
    }

-- no range is left

pub push_without_front-requires : goal.push_without_front-requires
push_without_front-requires g c = good_last c.loop-edit.invariant.so_far

pub returns-clause-bytes : goal.returns-clause-bytes
returns-clause-bytes g c = on_ok_weaker c.push_without_front.result (replaced-end c.loop-edit.invariant.so_far (no_swaps c.args.edits.now c.loop-edit.edit-index c.loop-edit-test.false)) c.push_without_front.ensures

pub returns-clause-utf8 : goal.returns-clause-utf8
returns-clause-utf8 g c = on_ok_weaker c.push_without_front.result (λ _. utf8-end (swaps_of c.args.edits.now) c.loop-edit.invariant.utf8 (no_swaps c.args.edits.now c.loop-edit.edit-index c.loop-edit-test.false)) c.push_without_front.ensures
