use Rattle.std.proofs.Common.{◌≡◌, sym, ◌∙◌, ap, rules}
use Rattle.ansi_items.specs.declared.ansitok.Kind.TheVariants.{Other}
use Rattle.ansi_items.proofs.StepLemmas.{gives_mark, gives_rest}
use Rattle.ansi_search.proofs.OffsetLemmas.{kind_differs}
use Rattle.ansi_safe.proofs.LinkLemmas.{is_kind}
use Rattle.ansi_safe.proofs.AddressLemmas.{other_is_sequence}
use Rattle.ansi_restyle.proofs.LinkWalkLemmas.{link_walk-begin, link_walk-first}
use Rattle.ansi_restyle.proofs.links.first_link.Goals as goal

pub loop-item-init : goal.loop-item-init
loop-item-init c =
    let s = c.args.walk in
    let begins : c.into_iter-item-iterator.result ≡ record { text = s.rest.now; offset = 0 } = c.into_iter-item-iterator.ensures.into_iter_gives ∙ c.new-item-items.ensures.start in
    record { text = ap (λ s. s.text) begins; walk = rw begins (link_walk-begin s.position s.start s.address.now s.rest.now c.requires); address_is_text = search rules }

pub address_in-requires : goal.address_in-requires
address_in-requires c = other_is_sequence c.in-Some.ensures.steps c.loop-item.invariant.text c.range-piece.ensures.value (is_kind Other c.if-eq-2.ensures)

-- the link ends that was open so far
pub returns-then-links_text-clause-first : goal.returns-then-links_text-clause-first
returns-then-links_text-clause-first c =
    let gives = c.in-Some.ensures.steps in
    let inv = c.loop-item.invariant in
    let mark = gives_mark gives inv.text c.range-piece.ensures.value (kind_differs c.if-eq.ensures) in
    (link_walk-first c.range_from.result.now inv.walk mark c.in-Some-address_in.ensures (sym c.links_text.ensures ∙ c.if-links_text.true) (gives_rest gives inv.text c.range_from.ensures.value)).0
