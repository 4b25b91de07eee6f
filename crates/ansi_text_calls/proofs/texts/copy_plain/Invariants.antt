use Rattle.std.proofs.Common.{◌≡◌, ◌≤◌, ◌++◌, List, ℕ, length, drop}
use Rattle.ansi_items.specs.Plain.{plain, plain_of}
use Rattle.ansi_items.specs.Scans.{pieces_left}
use Rattle.ansi_text_calls.proofs.texts.copy_plain.Given as goal

-- the plain bytes so far are counted, and written if there is room for them, and those that are left make up the plain text with them
abbrev pub invariant-loop-item : goal.invariant-loop-item
invariant-loop-item l = record {
  text : l.item-iterator.text ≡ l.text;
  copied : (done : List ℕ) × (done ++ plain_of (pieces_left l.item-iterator) ≡ plain l.text) × (l.len ≡ length done)
      × (length done ≤ length l.fn.buffer → l.buffer ≡ done ++ drop (length done) l.fn.buffer);
}
