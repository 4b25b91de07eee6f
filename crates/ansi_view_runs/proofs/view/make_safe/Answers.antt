use Rattle.std.proofs.Common.{◌≡◌, ◌++◌, true, [], string_bytes, rules, refl, sym, ◌∙◌, ap}
use Rattle.std.specs.Prelude.{string_len}
use Rattle.std.proofs.lemmas.Bool.{eqb-true}
use Rattle.std.proofs.lemmas.List.{nil_from_length}
use Rattle.ansi_safe.specs.Safe.{is_safe}
use Rattle.ansi_safe.proofs.MadeLemmas.{cleaned-safe, sanitized-safe}
use Rattle.ansi_view_runs.proofs.view.make_safe.Goals as goal

-- nothing is open before it
pub returns-then-is_empty-clause-opening : goal.returns-then-is_empty-clause-opening
returns-then-is_empty-clause-opening g c =
    let zero : string_len c.args.opening.now ≡ 0 = eqb-true _ 0 (sym c.is_empty.ensures ∙ c.if-is_empty.true) in
    let none : string_bytes c.args.opening.now ≡ [] = nil_from_length _ (search rules) in
    rw none c.end_clean.ensures.opening

-- what is open before it and the text are safe together

pub returns-in_ok-push_to-in-Some-clause-bytes : goal.returns-in_ok-push_to-in-Some-clause-bytes
returns-in_ok-push_to-in-Some-clause-bytes g c =
    let t = string_bytes c.args.opening.now ++ c.args.text.now in
    let policy = c.args.policy in
    let body : string_bytes c.in_ok-body.body ≡ t = c.in_ok-body.ensures ∙ ap (λ u. u ++ c.args.text.now) c.as_str.ensures.value in
    let safe : is_safe policy.links t ≡ true = ap (is_safe policy.links) (sym (c.as_str-2.ensures.value ∙ body)) ∙ sym c.in-Some.ensures.none in
    rw (c.in_ok-push_to-in-Some.ensures.bytes, c.ending-ending.ensures.link_end, c.in-Some.ensures.link, c.ending-ending.ensures.style, c.in-Some.ensures.style, c.as_str-2.ensures.value, body) (sym (sanitized-safe policy t safe))

pub returns-in_ok-push_to-in-Some-clause-opening : goal.returns-in_ok-push_to-in-Some-clause-opening
returns-in_ok-push_to-in-Some-clause-opening g c =
    let t = string_bytes c.args.opening.now ++ c.args.text.now in
    let policy = c.args.policy in
    let body : string_bytes c.in_ok-body.body ≡ t = c.in_ok-body.ensures ∙ ap (λ u. u ++ c.args.text.now) c.as_str.ensures.value in
    let safe : is_safe policy.links t ≡ true = ap (is_safe policy.links) (sym (c.as_str-2.ensures.value ∙ body)) ∙ sym c.in-Some.ensures.none in
    rw (c.in_ok-opening-in-Some.ensures, c.in-Some.ensures.style, c.in-Some.ensures.link, c.as_str-2.ensures.value, body, cleaned-safe policy t safe) refl
