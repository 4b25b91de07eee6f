use Rattle.ansi_search.proofs.Common.{◌≡◌, pieces_left}
use Rattle.ansi_search.proofs.LastRunLemmas.{IsRunWalk}
use Rattle.ansi_search.proofs.search.ends.last_item.Given as goal

-- the last run so far
abbrev pub invariant-loop-item : goal.invariant-loop-item
invariant-loop-item l = record {
  text : l.item-iterator.text ≡ l.text;
  walk : IsRunWalk l.text l.item-iterator.offset l.run.0 l.run.1 (pieces_left l.item-iterator);
}
