use Rattle.std.proofs.Common.{◌≡◌, true, chars, sym, ◌∙◌, ap}
use Rattle.ansi_items.specs.Plain.{marks}
use Rattle.ansi_style.proofs.MarkLemmas.{marks-bare}
use Rattle.ansi_style.specs.Styled.{style_of, style_after}
use Rattle.ansi_safe.specs.Links.{link_of}
use Rattle.ansi_safe.specs.Safe.{all_allowed, is_safe}
use Rattle.ansi_safe.proofs.AllowedLemmas.{stand_after_ordinary}
use Rattle.ansi_safe.proofs.RestLemmas.{safe-ordinary, style-ordinary, link-ordinary}
use Rattle.ansi_safe.proofs.SafeLemmas.{allowed-bare, allowed-is_safe}
use Rattle.ansi_safe.proofs.safe.after_allowed.Goals as goal

-- all characters are allowed

pub returns-then-rest_is_allowed-clause-safe : goal.returns-then-rest_is_allowed-clause-safe
returns-then-rest_is_allowed-clause-safe c = λ links.
    let split = c.split_ordinary.ensures in
    let all : all_allowed (chars c.args.text.now) ≡ true = stand_after_ordinary true (chars c.args.text.now) c.split_ordinary.result.0.now (chars c.split_ordinary.result.1.now) split.utf8 split.ordinary split.chars ∙ sym c.rest_is_allowed.ensures ∙ c.if-rest_is_allowed.true in
    allowed-is_safe links c.args.text.now c.utf8.text all

pub returns-then-rest_is_allowed-clause-style : goal.returns-then-rest_is_allowed-clause-style
returns-then-rest_is_allowed-clause-style c =
    let split = c.split_ordinary.ensures in
    let all : all_allowed (chars c.args.text.now) ≡ true = stand_after_ordinary true (chars c.args.text.now) c.split_ordinary.result.0.now (chars c.split_ordinary.result.1.now) split.utf8 split.ordinary split.chars ∙ sym c.rest_is_allowed.ensures ∙ c.if-rest_is_allowed.true in
    ap style_of (marks-bare c.args.text.now (allowed-bare c.args.text.now c.utf8.text all))

pub returns-then-rest_is_allowed-clause-link : goal.returns-then-rest_is_allowed-clause-link
returns-then-rest_is_allowed-clause-link c =
    let split = c.split_ordinary.ensures in
    let all : all_allowed (chars c.args.text.now) ≡ true = stand_after_ordinary true (chars c.args.text.now) c.split_ordinary.result.0.now (chars c.split_ordinary.result.1.now) split.utf8 split.ordinary split.chars ∙ sym c.rest_is_allowed.ensures ∙ c.if-rest_is_allowed.true in
    ap link_of (marks-bare c.args.text.now (allowed-bare c.args.text.now c.utf8.text all))

-- the front is ordinary

pub returns-else-not-starts_with-clause-safe : goal.returns-else-not-starts_with-clause-safe
returns-else-not-starts_with-clause-safe c = λ links.
    let split = c.split_ordinary.ensures in
    ap (is_safe links) split.spelled ∙ safe-ordinary true links c.split_ordinary.result.0.now c.split_ordinary.result.1.now split.utf8 split.ordinary

pub returns-else-not-starts_with-clause-style : goal.returns-else-not-starts_with-clause-style
returns-else-not-starts_with-clause-style c =
    let split = c.split_ordinary.ensures in
    ap style_after split.spelled ∙ style-ordinary true c.split_ordinary.result.0.now c.split_ordinary.result.1.now split.ordinary

pub returns-else-not-starts_with-clause-link : goal.returns-else-not-starts_with-clause-link
returns-else-not-starts_with-clause-link c =
    let split = c.split_ordinary.ensures in
    ap (λ u. link_of (marks u)) split.spelled ∙ link-ordinary true c.split_ordinary.result.0.now c.split_ordinary.result.1.now split.ordinary
