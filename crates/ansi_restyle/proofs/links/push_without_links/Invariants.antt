use Rattle.std.proofs.Common.{◌≡◌, ◌++◌, not, filter, flat_map, string_bytes}
use Rattle.ansi_items.specs.Pieces.{spelling}
use Rattle.ansi_items.specs.Scans.{pieces_left}
use Rattle.ansi_safe.specs.Links.{is_link}
use Rattle.ansi_restyle.specs.Links.{without_links}
use Rattle.ansi_restyle.proofs.links.push_without_links.Given as goal

-- what is written and what stays of what is left are what was there and what stays of all
abbrev pub invariant-loop-item : goal.invariant-loop-item
invariant-loop-item g l = record {
  text : l.item-iterator.text ≡ l.text;
  written : string_bytes l.out ++ flat_map spelling (filter (λ p. not (is_link (spelling p))) (pieces_left l.item-iterator)) ≡ string_bytes l.initial.out ++ without_links l.text;
}
