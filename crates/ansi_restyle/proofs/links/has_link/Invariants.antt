use Rattle.std.proofs.Common.{◌≡◌}
use Rattle.std.specs.List.{list_any}
use Rattle.ansi_items.specs.Pieces.{spelling}
use Rattle.ansi_items.specs.Scans.{pieces_left}
use Rattle.ansi_safe.specs.Links.{is_link}
use Rattle.ansi_restyle.specs.Links.{has_link}
use Rattle.ansi_restyle.proofs.links.has_link.Given as goal

-- what is left decides
abbrev pub invariant-loop-item : goal.invariant-loop-item
invariant-loop-item l = record {
  text : l.item-iterator.text ≡ l.text;
  decides : has_link l.text ≡ list_any (λ p. is_link (spelling p)) (pieces_left l.item-iterator);
}
