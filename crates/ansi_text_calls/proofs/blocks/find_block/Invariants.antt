use Rattle.std.proofs.Common.{◌≡◌, IsTrue}
use Rattle.std.specs.Prelude.{slice_get, IsFalse}
use Rattle.std.specs.List.{list_all}
use Rattle.ansi_str.specs.Plain.{has_escape}
use Rattle.ansi_str.specs.Blocks.{blocks}
use Rattle.ansi_text_calls.proofs.blocks.find_block.Given as goal

-- the block at the index is among those that are left, and they are borrows if all blocks are
abbrev pub invariant-loop-block : goal.invariant-loop-block
invariant-loop-block g l = record {
  found : slice_get l.block-iterator l.before ≡ slice_get (blocks l.text) l.index;
  borrowed : IsFalse (has_escape l.text) → IsTrue (list_all (λ b. b.is_borrow) l.block-iterator);
}
