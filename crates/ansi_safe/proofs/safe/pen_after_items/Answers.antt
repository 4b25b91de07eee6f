use Rattle.std.proofs.Common.{◌≡◌, [], sym, ◌∙◌, ap, subst, rules}
use Rattle.ansi_items.specs.Plain.{marks}
use Rattle.ansi_items.specs.Scans.{pieces_left}
use Rattle.ansi_items.specs.Pieces.{pieces_of}
use Rattle.ansi_style.specs.Rendition.{plain_style}
use Rattle.std.specs.List.{list_all}
use Rattle.ansi_safe.specs.Safe.{may_stay}
use Rattle.ansi_items.specs.declared.ansitok.Kind.TheVariants.{Other}
use Rattle.ansi_items.proofs.StepLemmas.{gives_mark}
use Rattle.ansi_search.proofs.OffsetLemmas.{kind_differs}
use Rattle.ansi_safe.proofs.LinkLemmas.{IsOpenSoFar, open-begin, open-end, open-other, is_kind, link_after_all-none}
use Rattle.ansi_safe.proofs.safe.pen_after_items.Goals as goal

pub loop-item-init : goal.loop-item-init
loop-item-init c =
    let t = c.args.text.now in
    let begins : c.into_iter-item-iterator.result ≡ record { text = t; offset = 0 } = c.into_iter-item-iterator.ensures.into_iter_gives ∙ c.new-item-items.ensures.start in
    let left : pieces_of t ≡ pieces_left c.into_iter-item-iterator.result = ap pieces_left (sym begins) in
    record {
      text = ap (λ s. s.text) begins;
      decides = ap (list_all (may_stay c.args.links)) left;
      so_far = subst (λ s. IsOpenSoFar t plain_style [] s [] (pieces_left c.into_iter-item-iterator.result)) (sym c.plain_style-style.ensures)
          (subst (IsOpenSoFar t plain_style [] plain_style []) left (open-begin t plain_style []));
      link_is_text = search rules;
    }

pub returns-clause-link : goal.returns-clause-link
returns-clause-link c = (open-end c.loop-item.invariant.so_far c.in-None.ensures.steps.2).1 ∙ link_after_all-none (marks c.args.text.now)

-- over another sequence
pub loop-item-preserved-then-eq-2 : goal.loop-item-preserved-then-eq-2
loop-item-preserved-then-eq-2 c =
    let gives = c.in-Some.ensures.steps in
    let inv = c.loop-item.invariant in
    let kind = is_kind Other c.if-eq-2.ensures in
    record {
      text = gives.text ∙ inv.text;
      decides = search rules;
      so_far = open-other inv.so_far (gives_mark gives inv.text c.range-piece.ensures.value (λ e. cc)) (kind_differs c.if-eq.ensures) c.link_after-link.ensures;
      link_is_text = search rules;
    }
