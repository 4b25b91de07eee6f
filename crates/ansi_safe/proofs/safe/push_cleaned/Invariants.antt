use Rattle.std.proofs.Common.{◌≡◌, ◌++◌, flat_map, string_bytes}
use Rattle.ansi_items.specs.Scans.{pieces_left}
use Rattle.ansi_safe.specs.Sanitized.{becomes, cleaned}
use Rattle.ansi_safe.proofs.safe.push_cleaned.Given as goal

-- what is written and what becomes of what is left are what was there and what becomes of all
abbrev pub invariant-loop-item : goal.invariant-loop-item
invariant-loop-item g l = record {
  text : l.item-iterator.text ≡ l.text;
  written : string_bytes l.out ++ flat_map (becomes l.policy) (pieces_left l.item-iterator) ≡ string_bytes l.initial.out ++ cleaned l.policy l.text;
}
