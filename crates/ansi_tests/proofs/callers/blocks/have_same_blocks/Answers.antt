use Rattle.std.proofs.Common.{◌≡◌, Bool, true, false, not, ◌&&◌, List, ◌∷◌, refl, sym, ◌∙◌, ap, ap₂, subst, Some, Result, Ok}
use Rattle.std.specs.Cmp.Lexicographic.{pointwise}
use Rattle.ansi_str.specs.Blocks.{Block, GivesBlock}
use Rattle.ansi_str.specs.Same.{are_same}
use Rattle.ansi_tests.proofs.callers.blocks.have_same_blocks.Goals as goal

-- the first blocks are compared, and then those after them
pointwise-first : {xs ys us vs : List Block} {x y : Block} (same : Bool) → xs ≡ x ∷ us → ys ≡ y ∷ vs → are_same x y ≡ same → pointwise are_same xs ys ≡ same && pointwise are_same us vs
pointwise-first {us = us} {vs = vs} same xs_is ys_is compared = ap₂ (pointwise are_same) xs_is ys_is ∙ ap (λ b. b && pointwise are_same us vs) compared

false_if_not_true : (b : Bool) → true ≡ not b → b ≡ false
false_if_not_true true e = e
false_if_not_true false e = refl

true_if_not_false : (b : Bool) → false ≡ not b → b ≡ true
true_if_not_false true e = refl
true_if_not_false false e = e

-- a block was taken off those that were left
GivesBlock-first : {E : Type 0} {xs us : List Block} {r : Result Block E} {x : Block} → GivesBlock xs (Some r) us → r ≡ Ok x → xs ≡ x ∷ us
GivesBlock-first {E} {xs} {us} gives is = subst (λ r. GivesBlock {E = E} xs (Some r) us) is gives

pub returns-then-ne : goal.returns-then-ne
returns-then-ne c =
    sym (pointwise-first false (GivesBlock-first c.in-Some.ensures.steps c.in_ok-block.was) (GivesBlock-first c.in-Some-next.ensures.steps c.in_ok-other.was) (false_if_not_true _ c.if-ne.ensures)) ∙ c.loop-block.invariant

pub loop-block-preserved-else-ne : goal.loop-block-preserved-else-ne
loop-block-preserved-else-ne c =
    sym (pointwise-first true (GivesBlock-first c.in-Some.ensures.steps c.in_ok-block.was) (GivesBlock-first c.in-Some-next.ensures.steps c.in_ok-other.was) (true_if_not_false _ c.if-ne.ensures)) ∙ c.loop-block.invariant

pub loop-block-preserved : goal.loop-block-preserved
loop-block-preserved c =
    sym (pointwise-first true (GivesBlock-first c.in-Some.ensures.steps c.in_ok-block.was) (GivesBlock-first c.in-Some-next.ensures.steps c.in_ok-other.was) (true_if_not_false _ c.if-ne.ensures)) ∙ c.loop-block.invariant
