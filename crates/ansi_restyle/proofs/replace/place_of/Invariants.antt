use Rattle.std.proofs.Common.{◌≡◌}
use denote.Text.{Utf8}
use denote.Shadow.{shadow}
use Rattle.ansi_items.specs.Scans.{pieces_left}
use Rattle.ansi_style.specs.States.{rendition_of}
use Rattle.ansi_restyle.proofs.PlaceLemmas.{IsPlaceWalk}
use Rattle.ansi_restyle.proofs.replace.place_of.Given as goal

-- the place is in what is left, or right before it
abbrev pub invariant-loop-item : goal.invariant-loop-item
invariant-loop-item l = record {
  text : l.item-iterator.text ≡ l.text;
  walk : IsPlaceWalk l.text l.position l.item-iterator.offset l.remaining (rendition_of l.style) l.link (pieces_left l.item-iterator);
  link_is_text : shadow (Utf8 l.link);
}
