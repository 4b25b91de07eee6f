use Rattle.std.proofs.Common.{◌≡◌, ◌≤◌, ◌∷◌, [], ◌++◌, ℕ, List, length}
use Rattle.memchr.specs.Find.{is_byte, places_between}
use Rattle.ansi_str.specs.Parts.{all_parts}
use Rattle.ansi_text_calls.specs.Lists.{AreCopiedSoFar}
use Rattle.ansi_text_calls.proofs.ByteLemmas.{between}
use Rattle.ansi_text_calls.proofs.lists.copy_around_byte.Given as goal

-- the stretches so far are copied, and those that are left make up all parts with them
abbrev pub invariant-loop-place : goal.invariant-loop-place
invariant-loop-place l = record {
  can : (goal.iterator-loop-place).can_next l.place-iterator;
  finite : (goal.iterator-loop-place).is_finite l.place-iterator;
  start : l.start ≤ length l.text;
  left : l.place-iterator ≡ places_between (is_byte l.byte) l.text l.start (length l.text);
  copied : (texts : List (List ℕ)) × (texts ++ between l.text l.start l.place-iterator ≡ all_parts l.text (l.byte ∷ [])) × AreCopiedSoFar texts l.copied l.fn.buffer l.buffer l.fn.ends l.ends;
}
