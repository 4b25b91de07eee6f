use Rattle.std.proofs.Common.{◌≡◌}
use denote.Text.{Utf8}
use denote.Shadow.{shadow}
use Rattle.ansi_items.specs.Scans.{pieces_left}
use Rattle.ansi_cells.proofs.AddressLemmas.{IsAddressWalk}
use Rattle.ansi_cells.proofs.addresses.link_at.Given as goal

-- the link that is open so far, and the place of the position in what is left
abbrev pub invariant-loop-item : goal.invariant-loop-item
invariant-loop-item l = record {
  text : l.item-iterator.text ≡ l.text;
  way : IsAddressWalk l.text l.index l.link l.remaining (pieces_left l.item-iterator);
  link_is_text : shadow (Utf8 l.link);
}
