use Rattle.std.proofs.Common.{◌≡◌}
use denote.Text.{Utf8}
use denote.Shadow.{shadow}
use Rattle.ansi_items.specs.Scans.{pieces_left}
use Rattle.ansi_restyle.specs.Links.{links_of_walk}
use Rattle.ansi_restyle.proofs.LinkWalkLemmas.{IsLinkWalk}
use Rattle.ansi_restyle.proofs.links.first_link.Given as goal

-- the links that are left
abbrev pub invariant-loop-item : goal.invariant-loop-item
invariant-loop-item l = record {
  text : l.item-iterator.text ≡ l.text;
  walk : IsLinkWalk (links_of_walk l.fn.walk) l.position l.start l.address (pieces_left l.item-iterator);
  address_is_text : shadow (Utf8 l.address);
}
