use Rattle.std.proofs.Common.{◌&&◌, ◌++◌, List, ℕ, [], ◌∷◌, inl, inr, ap, ap₂, sym, ◌∙◌, subst, IsTrue}
use Rattle.ansi_items.specs.Plain.{plain}
use Rattle.ansi_search.proofs.PositionLemmas.{none_if_bad, some_if_good}
use Rattle.ansi_safe.specs.declared.policy.Links.TheVariants.{Keep}
use Rattle.ansi_safe.specs.Safe.{is_safe}
use Rattle.ansi_restyle.specs.Ranges.{are_in_turn}
use Rattle.ansi_restyle.specs.Links.{as_link, IsLinked}
use Rattle.ansi_restyle.proofs.LinkRangeLemmas.{is_linked, is_linked-empty, with_link-empty, with_link-full, written-linked, length-with_link}
use Rattle.ansi_restyle.proofs.SafeLinkLemmas.{safe-kept, safe-linked}
use Rattle.ansi_restyle.proofs.links.link_in.Goals as goal

-- an address that isn't clean, or a bad range

pub returns-then-not-is_clean_address-clause-none : goal.returns-then-not-is_clean_address-clause-none
returns-then-not-is_clean_address-clause-none g c =
    none_if_bad (ap (λ b. b && are_in_turn (plain c.args.text.now) 0 (c.args.range ∷ [])) (sym c.is_clean_address.ensures ∙ c.if-not-is_clean_address.true))

pub returns-in_default-clause-none : goal.returns-in_default-clause-none
returns-in_default-clause-none g c =
    none_if_bad (ap₂ (λ b d. b && d) (sym c.is_clean_address.ensures ∙ c.if-not-is_clean_address.false) c.in_default.ensures)

-- an empty one

pub returns-then-start-end-clause-none : goal.returns-then-start-end-clause-none
returns-then-start-end-clause-none g c =
    some_if_good (ap₂ (λ b d. b && d) (sym c.is_clean_address.ensures ∙ c.if-not-is_clean_address.false) c.in-Some.ensures.good)

pub returns-then-start-end-clause-bytes : goal.returns-then-start-end-clause-bytes
returns-then-start-end-clause-bytes g c = sym (with_link-empty c.args.text.now c.args.range c.args.address.now c.if-start-end.true)

pub returns-then-start-end-clause-headline : goal.returns-then-start-end-clause-headline
returns-then-start-end-clause-headline g c = λ whole. is_linked-empty c.args.text.now c.args.range c.args.address.now c.if-start-end.true whole

pub returns-then-start-end-clause-safe : goal.returns-then-start-end-clause-safe
returns-then-start-end-clause-safe g c = λ links safe kept. safe-kept links c.args.text.now safe

-- any other needs memory

pub returns-in_err-linked-clause-takes_no_memory : goal.returns-in_err-linked-clause-takes_no_memory
returns-in_err-linked-clause-takes_no_memory g c =
    let good = ap₂ (λ b d. b && d) (sym c.is_clean_address.ensures ∙ c.if-not-is_clean_address.false) c.in-Some.ensures.good in
    λ either. elim either [ inl same ↦ absurd (c.if-start-end.false same) | inr bad ↦ absurd (cc (good, bad)) ]

pub returns-in_err-push_str-2-clause-takes_no_memory : goal.returns-in_err-push_str-2-clause-takes_no_memory
returns-in_err-push_str-2-clause-takes_no_memory g c =
    let good = ap₂ (λ b d. b && d) (sym c.is_clean_address.ensures ∙ c.if-not-is_clean_address.false) c.in-Some.ensures.good in
    λ either. elim either [ inl same ↦ absurd (c.if-start-end.false same) | inr bad ↦ absurd (cc (good, bad)) ]

pub returns-in_err-push_link-clause-takes_no_memory : goal.returns-in_err-push_link-clause-takes_no_memory
returns-in_err-push_link-clause-takes_no_memory g c =
    let good = ap₂ (λ b d. b && d) (sym c.is_clean_address.ensures ∙ c.if-not-is_clean_address.false) c.in-Some.ensures.good in
    λ either. elim either [ inl same ↦ absurd (c.if-start-end.false same) | inr bad ↦ absurd (cc (good, bad)) ]

pub returns-in_err-push_str-3-clause-takes_no_memory : goal.returns-in_err-push_str-3-clause-takes_no_memory
returns-in_err-push_str-3-clause-takes_no_memory g c =
    let good = ap₂ (λ b d. b && d) (sym c.is_clean_address.ensures ∙ c.if-not-is_clean_address.false) c.in-Some.ensures.good in
    λ either. elim either [ inl same ↦ absurd (c.if-start-end.false same) | inr bad ↦ absurd (cc (good, bad)) ]

pub returns-in_err-push_str-4-clause-takes_no_memory : goal.returns-in_err-push_str-4-clause-takes_no_memory
returns-in_err-push_str-4-clause-takes_no_memory g c =
    let good = ap₂ (λ b d. b && d) (sym c.is_clean_address.ensures ∙ c.if-not-is_clean_address.false) c.in-Some.ensures.good in
    λ either. elim either [ inl same ↦ absurd (c.if-start-end.false same) | inr bad ↦ absurd (cc (good, bad)) ]

-- what is written

pub returns-clause-none : goal.returns-clause-none
returns-clause-none g c =
    some_if_good (ap₂ (λ b d. b && d) (sym c.is_clean_address.ensures ∙ c.if-not-is_clean_address.false) c.in-Some.ensures.good)

pub returns-clause-bytes : goal.returns-clause-bytes
returns-clause-bytes g c =
    let before = c.in-Some.before.now in
    let within = c.in-Some.within.now in
    let after = c.in-Some.after.now in
    let start_link = c.pen_after-at_start.result.link.now in
    let end_link = c.pen_after_from-at_end.result.link.now in
    let address = c.args.address.now in
    c.in_ok-push_str-4.ensures.bytes
    ∙ ap (λ (u : List ℕ). u ++ after)
    (c.in_ok-push_str-3.ensures.bytes
    ∙ ap (λ (u : List ℕ). u ++ end_link)
    (c.in_ok-push_link.ensures
    ∙ ap (λ (u : List ℕ). u ++ as_link address within)
    (c.in_ok-push_str-2.ensures.bytes
    ∙ ap₂ (λ (u v : List ℕ). u ++ v) (c.in_ok-push_str.ensures.bytes ∙ ap (λ (u : List ℕ). u ++ before) c.in_ok-linked.ensures.bytes) c.link_end.ensures)))
    ∙ written-linked c.args.text.now before within after start_link end_link address c.args.range c.if-start-end.false c.in-Some.ensures c.pen_after-at_start.ensures.link c.pen_after_from-at_end.ensures.link

pub returns-clause-headline : goal.returns-clause-headline
returns-clause-headline g c =
    let t = c.args.text.now in
    let r = c.args.range in
    let address = c.args.address.now in
    λ whole. subst (IsLinked t r address) (sym (returns-clause-bytes g c ∙ with_link-full t r address c.if-start-end.false))
    (is_linked t r address whole c.in-Some.ensures.good (sym c.is_clean_address.ensures ∙ c.if-not-is_clean_address.false))

pub returns-clause-len : goal.returns-clause-len
returns-clause-len g c = length-with_link c.args.text.now c.args.range c.args.address.now _ c.if-start-end.false (returns-clause-bytes g c)

-- and safe, if the range neither begins nor ends between a carriage return and a line feed
pub returns-clause-safe : goal.returns-clause-safe
returns-clause-safe g c =
    let t = c.args.text.now in
    let r = c.args.range in
    let address = c.args.address.now in
    λ links safe kept. subst (λ u. IsTrue (is_safe Keep u)) (sym (returns-clause-bytes g c ∙ with_link-full t r address c.if-start-end.false))
    (safe-linked t r address c.utf8.text c.in-Some.ensures.good (sym c.is_clean_address.ensures ∙ c.if-not-is_clean_address.false) (safe-kept links t safe) kept)
