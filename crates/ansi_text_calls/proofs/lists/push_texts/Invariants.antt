use Rattle.std.proofs.Common.{◌≡◌, ◌++◌, length, map, string_bytes}
use Rattle.ansi_split.specs.Splits.{CarriedPart}
use Rattle.ansi_text_calls.specs.Lists.{ends_from}
use Rattle.ansi_text_calls.proofs.GivenLemmas.{joined_texts}
use Rattle.ansi_text_calls.proofs.lists.push_texts.Given as goal

-- the texts so far and those that are left are all, and so are their ends
abbrev pub invariant-texts : goal.invariant-texts
invariant-texts g l = record {
  texts : string_bytes l.texts ++ joined_texts (map (λ (p : CarriedPart). p.bytes) (g.P.PushNext.left l.left)) ≡ string_bytes l.fn.texts ++ joined_texts (map (λ (p : CarriedPart). p.bytes) (g.P.PushNext.left l.fn.given));
  ends : l.ends.items ++ ends_from (length (string_bytes l.texts)) (map (λ (p : CarriedPart). p.bytes) (g.P.PushNext.left l.left)) ≡ l.fn.ends.items ++ ends_from (length (string_bytes l.fn.texts)) (map (λ (p : CarriedPart). p.bytes) (g.P.PushNext.left l.fn.given));
}

abbrev pub decreases-texts : goal.decreases-texts
decreases-texts g l = length (g.P.PushNext.left l.left)
