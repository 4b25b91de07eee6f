use Rattle.std.proofs.Common.{rules, ◌≡◌, ◌∙◌, arith, ℕ, zero, suc, ◌-◌, ◌<◌, List, ◌∷◌, Bool, true, false, ◌&&◌, slice_get, IsTrue}
use Rattle.std.specs.List.{list_all}
use Rattle.ansi_str.specs.Blocks.{Block}
use Rattle.ansi_text_calls.proofs.ListLemmas.{block-taken}
use Rattle.ansi_text_calls.proofs.blocks.find_block.Goals as goal

-- once the first item is taken, each index is one less
later : (xs us : List Block) (x : Block) (i : ℕ) → xs ≡ x ∷ us → 0 < i → slice_get us (i - 1) ≡ slice_get xs i
later xs us x zero is some = grind (arith, some)
later xs us x (suc i) is some = let before : suc i - 1 ≡ i = omega arith in rw (before, is)

both-right : (a b : Bool) → (a && b) ≡ true → b ≡ true
both-right true b both = both
both-right false b both = cc

borrowed-later : (xs us : List Block) (x : Block) → xs ≡ x ∷ us → IsTrue (list_all (λ (b : Block). b.is_borrow) xs) → IsTrue (list_all (λ (b : Block). b.is_borrow) us)
borrowed-later xs us x is all = both-right x.is_borrow _ (rw is at all)

pub loop-block-preserved-else-before-eq0 : goal.loop-block-preserved-else-before-eq0
loop-block-preserved-else-before-eq0 g c =
    let is = block-taken c.in-Some.ensures.steps c.in_ok-block.was in
    record {
      found = later _ _ _ c.loop-block.before is (search rules) ∙ c.loop-block.invariant.found;
      borrowed = λ bare. borrowed-later _ _ _ is (c.loop-block.invariant.borrowed bare);
    }
