use Rattle.std.proofs.Common.{map}
use Rattle.ansi_text_calls.specs.Lists.{given_bytes, AreCopiedSoFar}
use Rattle.ansi_text_calls.proofs.lists.copy_texts.Given as goal

-- the texts so far are counted, and written with their ends if there is room for them
abbrev pub invariant-loop-text : goal.invariant-loop-text
invariant-loop-text g l = record {
  can : (goal.iterator-loop-text g).can_next l.text-iterator;
  finite : (goal.iterator-loop-text g).is_finite l.text-iterator;
  copied : AreCopiedSoFar (map given_bytes l.yielded) l.copied l.fn.buffer l.buffer l.fn.ends l.ends;
}
