use Rattle.std.proofs.Common.{refl, sym, ◌∙◌}
use Rattle.std.proofs.lemmas.Bool.{true≢false}
use Rattle.std.proofs.lemmas.List.{take_more}
use Rattle.ansi_items.specs.Plain.{plain}
use Rattle.ansi_items.proofs.Utf8Lemmas.{IsUtf8-plain}
use Rattle.ansi_restyle.proofs.RefusedLemmas.{taken-begin, taken-front, taken-all, taken-step, refused-all, refused-bad, refused-past}
use Rattle.ansi_restyle.proofs.restyle.refused_range.Goals as goal

pub loop-index-init : goal.loop-index-init
loop-index-init c = rw c.new-rest.ensures (taken-begin c.args.text.now c.args.ranges.now (IsUtf8-plain c.args.text.now c.utf8.text))

pub returns-in_default-clause-first : goal.returns-in_default-clause-first
returns-in_default-clause-first c =
    let next = take_more c.args.ranges.now c.loop-index.index _ c.loop-index-test.true in
    (c.loop-index-test.true, (taken-front c.loop-index.invariant, refused-bad c.loop-index.invariant _ next c.in_default.ensures))

pub returns-in_default-clause-none : goal.returns-in_default-clause-none
returns-in_default-clause-none c =
    ((λ none. absurd (true≢false none)), refused-all (plain c.args.text.now) c.args.ranges.now _ (returns-in_default-clause-first c).1.1)

pub returns-then-not-is_char_boundary-clause-first : goal.returns-then-not-is_char_boundary-clause-first
returns-then-not-is_char_boundary-clause-first c =
    let next = take_more c.args.ranges.now c.loop-index.index _ c.loop-index-test.true in
    let past = sym c.is_char_boundary.ensures.value ∙ c.if-not-is_char_boundary.true in
    (c.loop-index-test.true, (taken-front c.loop-index.invariant, refused-past c.loop-index.invariant _ next c.in-Some.after.text.now c.in-Some.ensures past))

pub returns-then-not-is_char_boundary-clause-none : goal.returns-then-not-is_char_boundary-clause-none
returns-then-not-is_char_boundary-clause-none c =
    ((λ none. absurd (true≢false none)), refused-all (plain c.args.text.now) c.args.ranges.now _ (returns-then-not-is_char_boundary-clause-first c).1.1)

pub loop-index-preserved : goal.loop-index-preserved
loop-index-preserved c =
    let next = take_more c.args.ranges.now c.loop-index.index _ c.loop-index-test.true in
    let there = sym c.is_char_boundary.ensures.value ∙ c.if-not-is_char_boundary.false in
    taken-step c.loop-index.invariant _ next c.in-Some.after.text.now c.in-Some.ensures there

pub returns-clause-none : goal.returns-clause-none
returns-clause-none c = ((λ none. taken-all c.loop-index.invariant c.loop-index-test.false), (λ all. refl))
