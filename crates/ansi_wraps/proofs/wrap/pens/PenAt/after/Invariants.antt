use Rattle.std.proofs.Common.{◌≡◌, slice_range}
use Rattle.ansi_items.specs.Scans.{pieces_left}
use Rattle.ansi_style.specs.States.{rendition_of}
use Rattle.ansi_safe.proofs.LinkLemmas.{IsOpenSoFar}
use Rattle.ansi_wraps.specs.WrapStates.{open_link, IsCharRange}
use Rattle.ansi_wraps.proofs.wrap.pens.PenAt.after.Given as goal

-- what is open so far, and what the pieces that are left make of it
abbrev pub invariant-loop-item : goal.invariant-loop-item
invariant-loop-item l = record {
  text : l.item-iterator.text ≡ slice_range l.text l.start l.end;
  so_far : IsOpenSoFar (slice_range l.text l.start l.end) (rendition_of l.fn.self.style) (open_link l.text l.fn.self) (rendition_of l.style) (slice_range l.text l.link.0 l.link.1) (pieces_left l.item-iterator);
  range : IsCharRange l.text l.link.0 l.link.1;
}
