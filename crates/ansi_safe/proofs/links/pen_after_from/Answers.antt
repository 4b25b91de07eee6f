use Rattle.std.proofs.Common.{◌≡◌, ◌∙◌, ap, rules}
use Rattle.ansi_items.specs.declared.ansitok.Kind.TheVariants.{Sgr, Other}
use Rattle.ansi_style.specs.States.{rendition_of}
use Rattle.ansi_items.proofs.StepLemmas.{gives_mark}
use Rattle.ansi_search.proofs.OffsetLemmas.{item_range, kind_differs}
use Rattle.ansi_safe.proofs.LinkLemmas.{open-begin, open-sgr, open-other, open-rest, open-end, is_kind}
use Rattle.ansi_safe.proofs.links.pen_after_from.Goals as goal

pub range-piece-requires : goal.range-piece-requires
range-piece-requires c = item_range c.in-Some.ensures.steps c.loop-item.invariant.text

pub loop-item-init : goal.loop-item-init
loop-item-init c =
    let begins : c.into_iter-item-iterator.result ≡ record { text = c.args.text.now; offset = 0 } = c.into_iter-item-iterator.ensures.into_iter_gives ∙ c.new-item-items.ensures.start in
    record { text = ap (λ s. s.text) begins; so_far = rw begins (open-begin c.args.text.now (rendition_of c.args.before.style) c.args.before.link.now); link_is_text = search rules }

-- over an SGR
pub loop-item-preserved-then-eq : goal.loop-item-preserved-then-eq
loop-item-preserved-then-eq c =
    let gives = c.in-Some.ensures.steps in
    let inv = c.loop-item.invariant in
    let kind = is_kind Sgr c.if-eq.ensures in
    record {
      text = gives.text ∙ inv.text;
      so_far = open-sgr inv.so_far (gives_mark gives inv.text c.range-piece.ensures.value (λ e. cc)) kind c.apply.ensures;
      link_is_text = inv.link_is_text;
    }

-- over another sequence
pub loop-item-preserved-then-eq-2 : goal.loop-item-preserved-then-eq-2
loop-item-preserved-then-eq-2 c =
    let gives = c.in-Some.ensures.steps in
    let inv = c.loop-item.invariant in
    let kind = is_kind Other c.if-eq-2.ensures in
    record {
      text = gives.text ∙ inv.text;
      so_far = open-other inv.so_far (gives_mark gives inv.text c.range-piece.ensures.value (λ e. cc)) (kind_differs c.if-eq.ensures) c.link_after-link.ensures;
      link_is_text = search rules;
    }

-- over a text, or a lone escape
pub loop-item-preserved : goal.loop-item-preserved
loop-item-preserved c =
    let gives = c.in-Some.ensures.steps in
    let inv = c.loop-item.invariant in
    record {
      text = gives.text ∙ inv.text;
      so_far = open-rest inv.so_far gives (kind_differs c.if-eq.ensures) (kind_differs c.if-eq-2.ensures);
      link_is_text = inv.link_is_text;
    }

pub returns-clause-style : goal.returns-clause-style
returns-clause-style c = (open-end c.loop-item.invariant.so_far c.in-None.ensures.steps.2).0

pub returns-clause-link : goal.returns-clause-link
returns-clause-link c = (open-end c.loop-item.invariant.so_far c.in-None.ensures.steps.2).1
