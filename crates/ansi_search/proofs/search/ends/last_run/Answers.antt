use Rattle.ansi_search.proofs.Common.{length, plain, ap, arith, drop_all, rules}
use Rattle.std.proofs.lemmas.Grind.{common_steps}
use Rattle.ansi_search.proofs.SplitLemmas.{end-item}
use Rattle.ansi_search.proofs.LastRunLemmas.{last_run-after, run-surely}
use Rattle.ansi_search.proofs.search.ends.last_run.Goals as goal

-- nothing is after the end
pub loop-start-init : goal.loop-start-init
loop-start-init c = record { boundary = search rules; begins = λ _. grind (arith, common_steps); bare = ap (λ u. length (plain u)) (drop_all (length c.args.text.now) c.args.text.now (omega arith)) }

-- the end is surely plain
pub returns-then-is_surely_plain-clause-run : goal.returns-then-is_surely_plain-clause-run
returns-then-is_surely_plain-clause-run c = run-surely c.args.text.now c.before_going_on-last.result (c.is_surely_plain.ensures c.if-is_surely_plain.true)

-- the last run is in this part
pub returns-then-from-to-clause-run : goal.returns-then-from-to-clause-run
returns-then-from-to-clause-run c _ =
    let part = c.item_before-start in
    last_run-after (end-item c.args.text.now part.result part.ensures.boundary part.ensures.begins) c.range_from.ensures.value (c.last_item-from.ensures.run c.if-from-to.true)
