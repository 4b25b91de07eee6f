use Rattle.std.proofs.Common.{rules, ◌+◌, refl, length, sym, ◌∙◌, ap, subst, arith}
use Rattle.std.specs.Str.{IsCharBoundary}
use Rattle.ansi_items.specs.declared.ansitok.Kind.TheVariants.{Sgr}
use Rattle.ansi_items.proofs.StepLemmas.{kind_is_text}
use Rattle.ansi_style.proofs.SgrLemmas.{apply-no_sgr}
use Rattle.ansi_search.proofs.OffsetLemmas.{over_text, over_mark, kind_differs}
use Rattle.ansi_safe.proofs.LinkLemmas.{is_kind}
use Rattle.ansi_restyle.proofs.PlaceLemmas.{link-sgr, place_walk-begin, place_walk-text, place_walk-mark, place_walk-last, place_walk-boundary, place_walk-end}
use Rattle.ansi_restyle.proofs.replace.place_of.Goals as goal

-- at the front
pub loop-item-init : goal.loop-item-init
loop-item-init c =
    let begins = c.into_iter-item-iterator.ensures.into_iter_gives ∙ c.new-item-items.ensures.start in
    record { text = ap (λ s. s.text) begins; walk = rw begins (place_walk-begin c.args.text.now c.args.position _ c.requires c.plain_style-style.ensures); link_is_text = search rules }

-- over a text
pub loop-item-preserved-then-eq : goal.loop-item-preserved-then-eq
loop-item-preserved-then-eq c =
    let gives = c.in-Some.ensures.steps in
    let over = over_text gives c.loop-item.invariant.text c.range-piece.ensures.value (kind_is_text c.if-eq.ensures) in
    record {
      text = gives.text ∙ c.loop-item.invariant.text;
      walk = place_walk-text c.loop-item.invariant.walk over c.if-remaining-piece.false refl;
      link_is_text = c.loop-item.invariant.link_is_text;
    }

-- over an SGR
pub loop-item-preserved-then-eq-2 : goal.loop-item-preserved-then-eq-2
loop-item-preserved-then-eq-2 c =
    let gives = c.in-Some.ensures.steps in
    let over = over_mark gives c.loop-item.invariant.text c.range-piece.ensures.value (kind_differs c.if-eq.ensures) in
    record {
      text = gives.text ∙ c.loop-item.invariant.text;
      walk = place_walk-mark c.loop-item.invariant.walk over c.apply.ensures (link-sgr _ c.range-piece.result.now (over.first.sgr (is_kind Sgr c.if-eq-2.ensures)));
      link_is_text = c.loop-item.invariant.link_is_text;
    }

-- over another sequence, or a lone escape
pub loop-item-preserved : goal.loop-item-preserved
loop-item-preserved c =
    let w = c.range-piece.result.now in
    let gives = c.in-Some.ensures.steps in
    let over = over_mark gives c.loop-item.invariant.text c.range-piece.ensures.value (kind_differs c.if-eq.ensures) in
    record {
      text = gives.text ∙ c.loop-item.invariant.text;
      walk = place_walk-mark c.loop-item.invariant.walk over (sym (apply-no_sgr _ w (over.first.no_sgr (kind_differs c.if-eq-2.ensures)))) c.link_after-link.ensures;
      link_is_text = search rules;
    }

-- the place is in the text that comes next, or right after it

pub returns-then-remaining-piece-clause-offset : goal.returns-then-remaining-piece-clause-offset
returns-then-remaining-piece-clause-offset c =
    let gives = c.in-Some.ensures.steps in
    let over = over_text gives c.loop-item.invariant.text c.range-piece.ensures.value (kind_is_text c.if-eq.ensures) in
    (place_walk-last c.loop-item.invariant.walk over c.if-remaining-piece.true (omega (arith, gives.start, gives.end, gives.forward)) (ap (λ n. n + c.loop-item.remaining) gives.start)).0

pub returns-then-remaining-piece-clause-boundary : goal.returns-then-remaining-piece-clause-boundary
returns-then-remaining-piece-clause-boundary c =
    let gives = c.in-Some.ensures.steps in
    let over = over_text gives c.loop-item.invariant.text c.range-piece.ensures.value (kind_is_text c.if-eq.ensures) in
    place_walk-boundary c.loop-item.invariant.walk over c.if-remaining-piece.true (ap (λ n. n + c.loop-item.remaining) gives.start) c.requires
    (subst (IsCharBoundary c.args.text.now) gives.end (subst (λ u. IsCharBoundary u c.in-Some.item.end) c.loop-item.invariant.text gives.end_boundary))

pub returns-then-remaining-piece-clause-style : goal.returns-then-remaining-piece-clause-style
returns-then-remaining-piece-clause-style c =
    let gives = c.in-Some.ensures.steps in
    let over = over_text gives c.loop-item.invariant.text c.range-piece.ensures.value (kind_is_text c.if-eq.ensures) in
    (place_walk-last c.loop-item.invariant.walk over c.if-remaining-piece.true (omega (arith, gives.start, gives.end, gives.forward)) (ap (λ n. n + c.loop-item.remaining) gives.start)).1

pub returns-then-remaining-piece-clause-link : goal.returns-then-remaining-piece-clause-link
returns-then-remaining-piece-clause-link c =
    let gives = c.in-Some.ensures.steps in
    let over = over_text gives c.loop-item.invariant.text c.range-piece.ensures.value (kind_is_text c.if-eq.ensures) in
    (place_walk-last c.loop-item.invariant.walk over c.if-remaining-piece.true (omega (arith, gives.start, gives.end, gives.forward)) (ap (λ n. n + c.loop-item.remaining) gives.start)).2

-- there is no text

pub returns-clause-offset : goal.returns-clause-offset
returns-clause-offset c =
    let ends = c.in-None.ensures.steps in
    sym (ends.1 ∙ ap length c.loop-item.invariant.text) ∙ (place_walk-end c.loop-item.invariant.walk ends.2).0

pub returns-clause-style : goal.returns-clause-style
returns-clause-style c = (place_walk-end c.loop-item.invariant.walk c.in-None.ensures.steps.2).1

pub returns-clause-link : goal.returns-clause-link
returns-clause-link c = (place_walk-end c.loop-item.invariant.walk c.in-None.ensures.steps.2).2
