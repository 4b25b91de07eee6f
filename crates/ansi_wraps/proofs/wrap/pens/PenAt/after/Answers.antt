use Rattle.std.proofs.Common.{◌≡◌, List, ℕ, slice_range, sym, ◌∙◌, ap, subst, arith}
use Rattle.std.specs.Str.{IsCharBoundary}
use Rattle.ansi_items.specs.declared.ansitok.Kind.TheVariants.{Sgr, Other}
use Rattle.ansi_items.specs.Scans.{Scan}
use Rattle.ansi_style.specs.States.{rendition_of}
use Rattle.ansi_items.proofs.StepLemmas.{gives_mark}
use Rattle.ansi_search.proofs.OffsetLemmas.{item_range, kind_differs}
use Rattle.ansi_safe.proofs.LinkLemmas.{open-begin, open-sgr, open-other, open-rest, open-end, is_kind}
use Rattle.ansi_wraps.specs.WrapStates.{open_link}
use Rattle.ansi_wraps.proofs.PenLemmas.{range-inside, slice-inside}
use Rattle.ansi_wraps.proofs.wrap.pens.PenAt.after.Goals as goal

abbrev begun : List ℕ → Scan
begun u = record { text = u; offset = 0 }

pub range-requires : goal.range-requires
range-requires c = item_range c.in-Some.ensures.steps (c.loop-item.invariant.text ∙ sym c.range-part.ensures.value)

pub loop-item-init : goal.loop-item-init
loop-item-init c =
    let part = slice_range c.args.text.now c.args.start c.args.end in
    let begins : c.into_iter-item-iterator.result ≡ begun part = c.into_iter-item-iterator.ensures.into_iter_gives ∙ c.new-item-items.ensures.start ∙ ap begun c.range-part.ensures.value in
    record { text = ap (λ s. s.text) begins; so_far = rw begins (open-begin part (rendition_of c.args.self.style) (open_link c.args.text.now c.args.self)); range = c.requires.link }

-- over an SGR
pub loop-item-preserved-then-eq : goal.loop-item-preserved-then-eq
loop-item-preserved-then-eq c =
    let gives = c.in-Some.ensures.steps in
    let inv = c.loop-item.invariant in
    let kind = is_kind Sgr c.if-eq.ensures in
    let piece = c.range.ensures.value ∙ ap (λ u. slice_range u c.in-Some.item.start c.in-Some.item.end) c.range-part.ensures.value in
    record {
      text = gives.text ∙ inv.text;
      so_far = open-sgr inv.so_far (gives_mark gives inv.text piece (λ e. cc)) kind c.apply.ensures;
      range = inv.range;
    }

-- another sequence stands in the text
pub link_after-link-requires-clause-sequence : goal.link_after-link-requires-clause-sequence
link_after-link-requires-clause-sequence c =
    let gives = c.in-Some.ensures.steps in
    let text = c.loop-item.invariant.text in
    range-inside c.requires.range (subst (λ u. IsCharBoundary u c.in-Some.item.start) text gives.start_boundary) (subst (λ u. IsCharBoundary u c.in-Some.item.end) text gives.end_boundary) (omega (arith, gives.forward))

pub loop-item-preserved-then-eq-2 : goal.loop-item-preserved-then-eq-2
loop-item-preserved-then-eq-2 c =
    let gives = c.in-Some.ensures.steps in
    let inv = c.loop-item.invariant in
    let kind = is_kind Other c.if-eq-2.ensures in
    let piece = slice-inside c.requires.range (subst (λ u. IsCharBoundary u c.in-Some.item.start) inv.text gives.start_boundary) (subst (λ u. IsCharBoundary u c.in-Some.item.end) inv.text gives.end_boundary) (omega (arith, gives.forward)) in
    record {
      text = gives.text ∙ inv.text;
      so_far = open-other inv.so_far (gives_mark gives inv.text piece (λ e. cc)) (kind_differs c.if-eq.ensures) c.link_after-link.ensures.link;
      range = c.link_after-link.ensures.range;
    }

-- over a text, or a lone escape
pub loop-item-preserved : goal.loop-item-preserved
loop-item-preserved c =
    let gives = c.in-Some.ensures.steps in
    let inv = c.loop-item.invariant in
    record {
      text = gives.text ∙ inv.text;
      so_far = open-rest inv.so_far gives (kind_differs c.if-eq.ensures) (kind_differs c.if-eq-2.ensures);
      range = inv.range;
    }

pub returns-clause-style : goal.returns-clause-style
returns-clause-style c = (open-end c.loop-item.invariant.so_far c.in-None.ensures.steps.2).0

pub returns-clause-link : goal.returns-clause-link
returns-clause-link c = (open-end c.loop-item.invariant.so_far c.in-None.ensures.steps.2).1
