use Rattle.std.proofs.Common.{map, length}
use Rattle.ansi_split.specs.Splits.{CarriedPart}
use Rattle.ansi_text_calls.specs.Parts.{AreAllWith}
use Rattle.ansi_text_calls.proofs.parts.FewParts.copy.Given as goal

-- with the parts that are left, as many are copied as at first
abbrev pub invariant-parts : goal.invariant-parts
invariant-parts g l = record {
  all : AreAllWith l.fn.self (map (λ (p : CarriedPart). p.bytes) l.fn.left) l.self (map (λ (p : CarriedPart). p.bytes) l.left);
}

abbrev pub decreases-parts : goal.decreases-parts
decreases-parts g l = length l.left
