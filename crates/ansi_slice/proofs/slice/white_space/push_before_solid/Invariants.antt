use Rattle.ansi_slice.proofs.Common.{◌≡◌, ◌++◌, string_bytes, plain, pieces_of, pieces_left, sequences_up_to, trim_interval}
use Rattle.ansi_slice.proofs.TrimWalkLemmas.{IsWhiteWalk}
use Rattle.ansi_slice.proofs.slice.white_space.push_before_solid.Given as goal

-- so far all is white space, and its sequences have been appended
abbrev pub invariant-loop-item : goal.invariant-loop-item
invariant-loop-item g l = record {
  text : l.item-iterator.text ≡ l.text;
  walk :
      let n = (trim_interval (plain l.text)).0 in
      IsWhiteWalk l.text (string_bytes l.initial.out ++ sequences_up_to n (pieces_of l.text)) (string_bytes l.out) n l.item-iterator.offset (pieces_left l.item-iterator);
}
