use Rattle.std.proofs.Common.{◌≡◌}
use Rattle.std.specs.List.{list_all}
use Rattle.ansi_items.specs.Scans.{pieces_left}
use Rattle.ansi_safe.specs.Safe.{may_stay, is_safe}
use Rattle.ansi_safe.proofs.safe.items_may_stay.Given as goal

-- what is left decides
abbrev pub invariant-loop-item : goal.invariant-loop-item
invariant-loop-item l = record {
  text : l.item-iterator.text ≡ l.text;
  decides : is_safe l.links l.text ≡ list_all (may_stay l.links) (pieces_left l.item-iterator);
}
