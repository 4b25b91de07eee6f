use Rattle.std.proofs.Common.{◌++◌, drop, string_bytes}
use Rattle.ansi_items.specs.Plain.{plain}
use Rattle.ansi_restyle.specs.ReplacedEach.{swaps_of, replaced_each}
use Rattle.ansi_restyle.proofs.ReplacedEachLemmas.{IsReplacedSoFar, MakesUtf8}
use Rattle.ansi_restyle.proofs.replace_each.push_replaced_each.Given as goal

-- what is written and what is made of what is left are all, and the texts that are written are UTF-8
abbrev pub invariant-loop-edit : goal.invariant-loop-edit
invariant-loop-edit g l = record {
  so_far : IsReplacedSoFar (plain l.text) (string_bytes l.fn.out ++ replaced_each l.text (swaps_of l.edits)) (string_bytes l.out) l.replacing (swaps_of (drop l.edit-index l.edits));
  utf8 : MakesUtf8 (swaps_of (drop l.edit-index l.edits)) (swaps_of l.edits);
}
