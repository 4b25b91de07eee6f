use Rattle.std.proofs.Common.{◌++◌, string_bytes}
use Rattle.ansi_items.specs.Plain.{plain}
use Rattle.ansi_restyle.specs.ReplacedAll.{replaced_all}
use Rattle.ansi_restyle.specs.ReplacedEach.{swaps_with}
use Rattle.ansi_restyle.proofs.ReplacedEachLemmas.{IsReplacedSoFar}
use Rattle.ansi_restyle.proofs.replace_all.push_replaced_all.Given as goal

-- what is written and what is made of what is left are all
abbrev pub invariant-loop-range : goal.invariant-loop-range
invariant-loop-range g l =
    IsReplacedSoFar (plain l.text) (string_bytes l.fn.out ++ replaced_all l.text l.pat l.with) (string_bytes l.out) l.replacing (swaps_with l.with l.range-iterator)
