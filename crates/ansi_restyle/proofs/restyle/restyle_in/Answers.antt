use Rattle.std.proofs.Common.{◌++◌, sym, ◌∙◌, ap₂, subst, IsTrue, string_bytes}
use Rattle.ansi_items.specs.Sequences.{is_sgr}
use Rattle.ansi_style.specs.Written.{written}
use Rattle.ansi_safe.specs.Safe.{is_safe}
use Rattle.ansi_restyle.specs.Restyled.{restyled, IsRestyled}
use Rattle.ansi_restyle.proofs.OtherLemmas.{change_is_sgr}
use Rattle.ansi_restyle.proofs.RestyledLemmas.{is_restyled}
use Rattle.ansi_restyle.proofs.EmptyLemmas.{restyled-empty}
use Rattle.ansi_restyle.proofs.LengthLemmas.{length-restyled}
use Rattle.ansi_restyle.proofs.SafeRangeLemmas.{safe-restyled}
use Rattle.ansi_restyle.proofs.restyle.restyle_in.Goals as goal

-- empty ranges change nothing

pub returns-then-are_empty-clause-bytes : goal.returns-then-are_empty-clause-bytes
returns-then-are_empty-clause-bytes g c =
    sym (restyled-empty c.args.text.now (written c.args.codes.now) c.args.ranges.now (sym c.are_empty.ensures ∙ c.if-are_empty.true))

pub returns-then-are_empty-clause-headline : goal.returns-then-are_empty-clause-headline
returns-then-are_empty-clause-headline g c =
    let t = c.args.text.now in
    let w = written c.args.codes.now in
    let rs = c.args.ranges.now in
    λ whole. subst (IsRestyled t w rs) (restyled-empty t w rs (sym c.are_empty.ensures ∙ c.if-are_empty.true))
    (is_restyled t c.args.codes.now rs (sym c.is_change.ensures ∙ c.if-not-is_change.false) (sym c.are_in_turn.ensures ∙ c.if-not-are_in_turn.false) whole)

-- other ranges are written

pub push_restyled-requires-clause-change : goal.push_restyled-requires-clause-change
push_restyled-requires-clause-change g c =
    subst (λ u. IsTrue (is_sgr u)) (sym (c.as_str.ensures.value ∙ c.in_ok-change.ensures)) (change_is_sgr c.args.codes.now (sym c.is_change.ensures ∙ c.if-not-is_change.false))

pub returns-clause-bytes : goal.returns-clause-bytes
returns-clause-bytes g c =
    c.in_ok-push_restyled.ensures
    ∙ ap₂ (λ o v. o ++ restyled c.args.text.now v c.args.ranges.now) c.in_ok-restyled.ensures.bytes (c.as_str.ensures.value ∙ c.in_ok-change.ensures)

pub returns-clause-headline : goal.returns-clause-headline
returns-clause-headline g c =
    let t = c.args.text.now in
    let w = written c.args.codes.now in
    let rs = c.args.ranges.now in
    λ whole. subst (IsRestyled t w rs) (sym (returns-clause-bytes g c))
    (is_restyled t c.args.codes.now rs (sym c.is_change.ensures ∙ c.if-not-is_change.false) (sym c.are_in_turn.ensures ∙ c.if-not-are_in_turn.false) whole)

pub returns-clause-len : goal.returns-clause-len
returns-clause-len g c = length-restyled c.args.text.now c.args.codes.now c.args.ranges.now (string_bytes c.push_restyled.new.out) (returns-clause-bytes g c)

-- and safe, if no range parts a line end
pub returns-clause-safe : goal.returns-clause-safe
returns-clause-safe g c =
    λ links safe kept. subst (λ u. IsTrue (is_safe links u)) (sym (returns-clause-bytes g c))
    (safe-restyled links c.args.text.now c.args.codes.now c.args.ranges.now c.utf8.text (sym c.is_change.ensures ∙ c.if-not-is_change.false) (sym c.are_in_turn.ensures ∙ c.if-not-are_in_turn.false) safe kept)
