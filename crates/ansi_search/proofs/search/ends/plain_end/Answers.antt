use Rattle.ansi_search.proofs.Common.{length, drop, sym, ◌∙◌, ap, arith, length-plain, length-drop}
use Rattle.ansi_search.proofs.SplitLemmas.{end-item, end-plain, plain-surely, length-plain-split}
use Rattle.ansi_search.proofs.search.ends.plain_end.Goals as goal

-- over what is between two items
pub overflow_add-len : goal.overflow_add-len
overflow_add-len c =
    let t = c.args.text.now in
    let start = c.item_before-start.result in
    let both = length-plain-split t c.range.result.now start c.loop-len.start (omega (arith, c.item_before-start.ensures.bound)) (c.loop-len.invariant.begins c.if-start-gt0.true) c.range.ensures.value in
    omega (arith, both, c.plain_len-len.ensures, c.loop-len.invariant.count, length-plain (drop start t), length-drop start t, c.well_formed.0.0)

pub loop-len-preserved : goal.loop-len-preserved
loop-len-preserved c =
    let t = c.args.text.now in
    let start = c.item_before-start.result in
    let both = length-plain-split t c.range.result.now start c.loop-len.start (omega (arith, c.item_before-start.ensures.bound)) (c.loop-len.invariant.begins c.if-start-gt0.true) c.range.ensures.value in
    record {
      boundary = c.item_before-start.ensures.boundary;
      begins = c.item_before-start.ensures.begins;
      count = omega (arith, both, c.plain_len-len.ensures, c.loop-len.invariant.count);
    }

-- from the last of them on
pub returns-after-loop-len-clause-end : goal.returns-after-loop-len-clause-end
returns-after-loop-len-clause-end c = end-item c.args.text.now c.loop-len.start c.loop-len.invariant.boundary c.loop-len.invariant.begins

-- where all is surely plain
pub returns-then-is_surely_plain-clause-end : goal.returns-then-is_surely_plain-clause-end
returns-then-is_surely_plain-clause-end c = end-plain c.args.text.now c.before_going_on-last.result (c.is_surely_plain.ensures c.if-is_surely_plain.true)

pub returns-then-is_surely_plain-clause-len : goal.returns-then-is_surely_plain-clause-len
returns-then-is_surely_plain-clause-len c =
    let t = c.args.text.now in
    let last = c.before_going_on-last.result in
    sym (ap length (plain-surely t last (c.is_surely_plain.ensures c.if-is_surely_plain.true)) ∙ length-drop last t)
