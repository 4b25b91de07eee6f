use Rattle.std.proofs.Common.{◌≡◌, ℕ, List, None, refl, ◌∙◌, ap, rules}
use Rattle.ansi_items.specs.declared.ansitok.Kind.TheVariants.{Other}
use Rattle.ansi_items.proofs.StepLemmas.{gives_text, gives_mark, kind_is_text}
use Rattle.ansi_search.proofs.OffsetLemmas.{item_range, kind_differs}
use Rattle.ansi_cells.proofs.AddressLemmas.{address_walk-begin, address_walk-text, address_walk-other, address_walk-rest, address_walk-last, address_walk-end, none-exactly}
use Rattle.ansi_safe.proofs.AddressLemmas.{other_is_sequence, GivesItem-no_link}
use Rattle.ansi_safe.proofs.LinkLemmas.{is_kind}
use Rattle.ansi_cells.proofs.addresses.link_at.Goals as goal

pub range-piece-requires : goal.range-piece-requires
range-piece-requires c = item_range c.in-Some.ensures.steps c.loop-item.invariant.text

pub loop-item-init : goal.loop-item-init
loop-item-init c =
    let begins : c.into_iter-item-iterator.result ≡ record { text = c.args.text.now; offset = 0 } = c.into_iter-item-iterator.ensures.into_iter_gives ∙ c.new-item-items.ensures.start in
    record { text = ap (λ s. s.text) begins; way = rw begins (address_walk-begin c.args.text.now c.args.index); link_is_text = search rules }

-- the position is in a text

pub address-requires : goal.address-requires
address-requires c = c.loop-item.invariant.way.sequence

pub returns-then-remaining-piece-clause-none : goal.returns-then-remaining-piece-clause-none
returns-then-remaining-piece-clause-none c =
    let first = gives_text c.in-Some.ensures.steps c.loop-item.invariant.text c.range-piece.ensures.value (kind_is_text c.if-eq.ensures) in
    none-exactly c.address.result _ c.args.text.now c.args.index (c.address.ensures ∙ address_walk-last c.loop-item.invariant.way first c.if-remaining-piece.true)

pub returns-then-remaining-piece-clause-bytes : goal.returns-then-remaining-piece-clause-bytes
returns-then-remaining-piece-clause-bytes c =
    let first = gives_text c.in-Some.ensures.steps c.loop-item.invariant.text c.range-piece.ensures.value (kind_is_text c.if-eq.ensures) in
    c.address.ensures ∙ address_walk-last c.loop-item.invariant.way first c.if-remaining-piece.true

-- over a text
pub loop-item-preserved-then-eq : goal.loop-item-preserved-then-eq
loop-item-preserved-then-eq c =
    let gives = c.in-Some.ensures.steps in
    let inv = c.loop-item.invariant in
    let first = gives_text gives inv.text c.range-piece.ensures.value (kind_is_text c.if-eq.ensures) in
    record { text = gives.text ∙ inv.text; way = address_walk-text inv.way first c.if-remaining-piece.false refl; link_is_text = inv.link_is_text }

-- over another sequence
pub loop-item-preserved-then-eq-2 : goal.loop-item-preserved-then-eq-2
loop-item-preserved-then-eq-2 c =
    let gives = c.in-Some.ensures.steps in
    let inv = c.loop-item.invariant in
    let bytes = c.range-piece.ensures.value in
    let mark = gives_mark gives inv.text bytes (kind_differs c.if-eq.ensures) in
    record {
      text = gives.text ∙ inv.text;
      way = address_walk-other inv.way mark (other_is_sequence gives inv.text bytes (is_kind Other c.if-eq-2.ensures)) c.link_after-link.ensures;
      link_is_text = search rules;
    }

-- over an SGR, or a lone escape
pub loop-item-preserved : goal.loop-item-preserved
loop-item-preserved c =
    let gives = c.in-Some.ensures.steps in
    let inv = c.loop-item.invariant in
    let bytes = c.range-piece.ensures.value in
    let mark = gives_mark gives inv.text bytes (kind_differs c.if-eq.ensures) in
    record {
      text = gives.text ∙ inv.text;
      way = address_walk-rest inv.way mark (GivesItem-no_link gives inv.text bytes (kind_differs c.if-eq.ensures) (kind_differs c.if-eq-2.ensures));
      link_is_text = inv.link_is_text;
    }

pub returns-clause-none : goal.returns-clause-none
returns-clause-none c = none-exactly {X = List ℕ} None (λ x. x) c.args.text.now c.args.index (address_walk-end c.loop-item.invariant.way c.in-None.ensures.steps.2)

pub returns-clause-bytes : goal.returns-clause-bytes
returns-clause-bytes c = address_walk-end c.loop-item.invariant.way c.in-None.ensures.steps.2
