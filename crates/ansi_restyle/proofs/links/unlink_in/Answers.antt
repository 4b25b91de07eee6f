use Rattle.std.proofs.Common.{◌≤◌, length, sym, ◌∙◌, subst, rules, IsTrue, string_bytes}
use Rattle.ansi_safe.specs.Safe.{is_safe}
use Rattle.ansi_restyle.specs.Links.{without_links, IsWithoutLinks}
use Rattle.ansi_restyle.proofs.WithoutLinksLemmas.{without_links-none, length-without_links, is_without_links}
use Rattle.ansi_restyle.proofs.SafeEditLemmas.{safe-without_links}
use Rattle.ansi_restyle.proofs.links.unlink_in.Goals as goal

-- without a link sequence

pub returns-then-not-has_link-clause-bytes : goal.returns-then-not-has_link-clause-bytes
returns-then-not-has_link-clause-bytes g c = sym (without_links-none c.args.text.now (sym c.has_link.ensures ∙ c.if-not-has_link.true))

pub returns-then-not-has_link-clause-headline : goal.returns-then-not-has_link-clause-headline
returns-then-not-has_link-clause-headline g c =
    let t = c.args.text.now in
    λ whole. subst (IsWithoutLinks t) (without_links-none t (sym c.has_link.ensures ∙ c.if-not-has_link.true)) (is_without_links t whole)

pub returns-then-not-has_link-clause-safe : goal.returns-then-not-has_link-clause-safe
returns-then-not-has_link-clause-safe g c =
    let t = c.args.text.now in
    λ links other safe. subst (λ u. IsTrue (is_safe other u)) (without_links-none t (sym c.has_link.ensures ∙ c.if-not-has_link.true)) (safe-without_links links other t c.utf8.text safe)

-- with one

pub returns-clause-headline : goal.returns-clause-headline
returns-clause-headline g c =
    let t = c.args.text.now in
    λ whole. subst (IsWithoutLinks t) (search rules) (is_without_links t whole)

pub returns-clause-len : goal.returns-clause-len
returns-clause-len g c = subst (λ u. length u ≤ length c.args.text.now) (search rules) (length-without_links c.args.text.now)

-- and safe, whether links are kept or not
pub returns-clause-safe : goal.returns-clause-safe
returns-clause-safe g c =
    let t = c.args.text.now in
    λ links other safe. subst (λ u. IsTrue (is_safe other u)) {x = without_links t} {y = string_bytes c.push_without_links.new.out} (search rules) (safe-without_links links other t c.utf8.text safe)
