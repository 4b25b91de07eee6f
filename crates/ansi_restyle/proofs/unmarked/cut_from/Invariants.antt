use Rattle.std.proofs.Common.{◌≡◌, take}
use Rattle.ansi_items.specs.Plain.{has_escape}
use Rattle.ansi_items.specs.Scans.{pieces_left}
use Rattle.ansi_style.specs.States.{rendition_of}
use Rattle.ansi_split.proofs.MatchWalkLemmas.{IsWalked}
use Rattle.ansi_restyle.specs.Rests.{IsNextPlace}
use Rattle.ansi_restyle.proofs.unmarked.cut_from.Given as goal

-- no match begins in what is passed, and the pattern's bytes occur next where the last search found them
abbrev pub invariant-loop-item : goal.invariant-loop-item
invariant-loop-item l = record {
  text : l.item-iterator.text ≡ l.text;
  near : IsNextPlace l.text l.pat l.item-iterator.offset l.near;
  so_far : IsWalked (rendition_of l.initial.style) l.text l.pat 0 l.item-iterator.offset 0 (rendition_of l.style) (has_escape (take l.item-iterator.offset l.text)) (pieces_left l.item-iterator);
}
