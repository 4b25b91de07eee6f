use Rattle.ansi_str.proofs.Common.{◌≡◌, are_whole, is_whole, pieces_left}
use Rattle.ansi_str.proofs.edits.ansi_is_whole.Given as goal

-- the pieces that are left are whole exactly if all pieces are
abbrev pub invariant-loop-item : goal.invariant-loop-item
invariant-loop-item l = are_whole (pieces_left l.item-iterator) ≡ is_whole l.text
