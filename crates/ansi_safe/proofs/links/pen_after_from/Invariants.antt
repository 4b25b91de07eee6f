use Rattle.std.proofs.Common.{◌≡◌}
use denote.Text.{Utf8}
use denote.Shadow.{shadow}
use Rattle.ansi_items.specs.Scans.{pieces_left}
use Rattle.ansi_style.specs.States.{rendition_of}
use Rattle.ansi_safe.proofs.LinkLemmas.{IsOpenSoFar}
use Rattle.ansi_safe.proofs.links.pen_after_from.Given as goal

-- what is open so far, and what the pieces that are left make of it
abbrev pub invariant-loop-item : goal.invariant-loop-item
invariant-loop-item l = record {
  text : l.item-iterator.text ≡ l.text;
  so_far : IsOpenSoFar l.text (rendition_of l.fn.before.style) l.fn.before.link.now (rendition_of l.style) l.link (pieces_left l.item-iterator);
  link_is_text : shadow (Utf8 l.link);
}
