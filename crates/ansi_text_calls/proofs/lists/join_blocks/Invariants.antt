use Rattle.std.proofs.Common.{◌≡◌, ◌++◌, List, length, string_bytes}
use Rattle.std.specs.Prelude.{flat_map}
use Rattle.ansi_str.specs.Blocks.{blocks}
use Rattle.ansi_text_calls.specs.Lists.{AreEntries}
use Rattle.ansi_text_calls.proofs.lists.join_blocks.Given as goal

-- the blocks so far and those that are left are all, and so are their entries
abbrev pub invariant-loop-block : goal.invariant-loop-block
invariant-loop-block g l = record {
  texts : string_bytes l.texts ++ flat_map g.T.Listed.text l.block-iterator ≡ flat_map g.T.Listed.text (blocks l.text);
  entries : (es : List _) → AreEntries g.T.Listed.text g.T.Listed.IsEntry (length (string_bytes l.texts)) l.block-iterator es
      → AreEntries g.T.Listed.text g.T.Listed.IsEntry 0 (blocks l.text) (l.entries.items ++ es);
}
