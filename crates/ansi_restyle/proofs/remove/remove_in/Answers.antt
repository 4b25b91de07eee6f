use Rattle.std.proofs.Common.{◌++◌, ◌-◌, List, ℕ, inl, inr, ap, sym, ◌∙◌, subst, string_bytes, IsTrue}
use Rattle.ansi_items.specs.Pieces.{pieces_of}
use Rattle.ansi_items.specs.Plain.{plain}
use Rattle.ansi_search.proofs.PositionLemmas.{no_character_goes_on-past, none_if_bad, some_if_good}
use Rattle.ansi_slice.specs.Stretches.{sequences_up_to}
use Rattle.ansi_safe.specs.Safe.{is_safe}
use Rattle.ansi_restyle.specs.Removed.{IsRemoved}
use Rattle.ansi_restyle.proofs.IsRemovedLemmas.{is_removed}
use Rattle.ansi_restyle.proofs.ReplacedLemmas.{is_good_range}
use Rattle.ansi_restyle.proofs.RemovedLemmas.{length-part, removed-written, removed-empty, length-removed, range_divided, range_bad_start, range_bad_end}
use Rattle.ansi_restyle.proofs.SafeEditLemmas.{safe-removed}
use Rattle.ansi_restyle.proofs.remove.remove_in.Goals as goal

-- a bad range

pub returns-in_default-clause-none : goal.returns-in_default-clause-none
returns-in_default-clause-none g c =
    let bad = rw c.new.ensures at c.in_default.ensures in
    none_if_bad (range_bad_start c.args.text.now c.args.range c.if-end-start.false bad)

pub returns-in_default-divide-clause-none : goal.returns-in_default-divide-clause-none
returns-in_default-divide-clause-none g c =
    let first = rw c.new.ensures at c.in-Some.ensures in
    none_if_bad (range_bad_end c.args.text.now c.args.range c.if-end-start.false first c.in_default-divide.ensures)

pub returns-then-not-is_char_boundary-clause-none : goal.returns-then-not-is_char_boundary-clause-none
returns-then-not-is_char_boundary-clause-none g c =
    let first = rw c.new.ensures at c.in-Some.ensures in
    none_if_bad (range_divided c.args.text.now c.args.range c.if-end-start.false first c.in-Some-divide.ensures (sym c.is_char_boundary.ensures.value ∙ c.if-not-is_char_boundary.true))

-- an empty one

pub returns-then-start-end-clause-none : goal.returns-then-start-end-clause-none
returns-then-start-end-clause-none g c =
    let first = rw c.new.ensures at c.in-Some.ensures in
    some_if_good (range_divided c.args.text.now c.args.range c.if-end-start.false first c.in-Some-divide.ensures
    (sym c.is_char_boundary.ensures.value ∙ c.if-not-is_char_boundary.false))

pub returns-then-start-end-clause-bytes : goal.returns-then-start-end-clause-bytes
returns-then-start-end-clause-bytes g c = sym (removed-empty c.args.text.now c.args.range.0 c.args.range.1 c.if-start-end.true)

pub returns-then-start-end-clause-headline : goal.returns-then-start-end-clause-headline
returns-then-start-end-clause-headline g c =
    let t = c.args.text.now in
    let first = rw c.new.ensures at c.in-Some.ensures in
    let good = range_divided t c.args.range c.if-end-start.false first c.in-Some-divide.ensures
    (sym c.is_char_boundary.ensures.value ∙ c.if-not-is_char_boundary.false) in
    λ whole. subst (IsRemoved t c.args.range.0 c.args.range.1) (removed-empty t c.args.range.0 c.args.range.1 c.if-start-end.true) (is_removed t c.args.range.0 c.args.range.1 c.if-end-start.false (is_good_range t c.args.range good).end_within whole)

-- any other needs memory

pub returns-in_err-shorter-clause-takes_no_memory : goal.returns-in_err-shorter-clause-takes_no_memory
returns-in_err-shorter-clause-takes_no_memory g c =
    let first = rw c.new.ensures at c.in-Some.ensures in
    let good = range_divided c.args.text.now c.args.range c.if-end-start.false first c.in-Some-divide.ensures
    (sym c.is_char_boundary.ensures.value ∙ c.if-not-is_char_boundary.false) in
    λ either. elim either [ inl same ↦ absurd (c.if-start-end.false same) | inr bad ↦ absurd (cc (good, bad)) ]

pub returns-in_err-push_sequences-clause-takes_no_memory : goal.returns-in_err-push_sequences-clause-takes_no_memory
returns-in_err-push_sequences-clause-takes_no_memory g c =
    let first = rw c.new.ensures at c.in-Some.ensures in
    let good = range_divided c.args.text.now c.args.range c.if-end-start.false first c.in-Some-divide.ensures
    (sym c.is_char_boundary.ensures.value ∙ c.if-not-is_char_boundary.false) in
    λ either. elim either [ inl same ↦ absurd (c.if-start-end.false same) | inr bad ↦ absurd (cc (good, bad)) ]

pub returns-in_err-push_str-2-clause-takes_no_memory : goal.returns-in_err-push_str-2-clause-takes_no_memory
returns-in_err-push_str-2-clause-takes_no_memory g c =
    let first = rw c.new.ensures at c.in-Some.ensures in
    let good = range_divided c.args.text.now c.args.range c.if-end-start.false first c.in-Some-divide.ensures
    (sym c.is_char_boundary.ensures.value ∙ c.if-not-is_char_boundary.false) in
    λ either. elim either [ inl same ↦ absurd (c.if-start-end.false same) | inr bad ↦ absurd (cc (good, bad)) ]

-- all sequences of the range are written

pub push_sequences-requires : goal.push_sequences-requires
push_sequences-requires g c =
    let n = c.args.range.1 - c.args.range.0 in
    no_character_goes_on-past (plain c.in-Some-divide.at_end.front.now) n (length-part n c.in-Some-divide.ensures)

pub returns-clause-none : goal.returns-clause-none
returns-clause-none g c =
    let first = rw c.new.ensures at c.in-Some.ensures in
    some_if_good (range_divided c.args.text.now c.args.range c.if-end-start.false first c.in-Some-divide.ensures
    (sym c.is_char_boundary.ensures.value ∙ c.if-not-is_char_boundary.false))

pub returns-clause-bytes : goal.returns-clause-bytes
returns-clause-bytes g c =
    let t = c.args.text.now in
    let a = c.args.range.0 in
    let b = c.args.range.1 in
    let first = rw c.new.ensures at c.in-Some.ensures in
    let before = c.in-Some.at_start.front.now in
    let after = c.in-Some.at_start.rest.text.now in
    let part = c.in-Some-divide.at_end.front.now in
    let last = c.in-Some-divide.at_end.rest.text.now in
    c.in_ok-push_str-2.ensures.bytes
    ∙ ap (λ (u : List ℕ). u ++ last)
    (c.in_ok-push_sequences.ensures.bytes ∙ ap (λ (u : List ℕ). u ++ sequences_up_to (b - a) (pieces_of part)) (c.in_ok-push_str.ensures.bytes ∙ ap (λ (u : List ℕ). u ++ before) c.in_ok-shorter.ensures.bytes))
    ∙ removed-written t before after part last a b first c.in-Some-divide.ensures

pub returns-clause-headline : goal.returns-clause-headline
returns-clause-headline g c =
    let t = c.args.text.now in
    let first = rw c.new.ensures at c.in-Some.ensures in
    let good = range_divided t c.args.range c.if-end-start.false first c.in-Some-divide.ensures
    (sym c.is_char_boundary.ensures.value ∙ c.if-not-is_char_boundary.false) in
    λ whole. subst (IsRemoved t c.args.range.0 c.args.range.1) (sym (returns-clause-bytes g c)) (is_removed t c.args.range.0 c.args.range.1 c.if-end-start.false (is_good_range t c.args.range good).end_within whole)

pub returns-clause-len : goal.returns-clause-len
returns-clause-len g c = length-removed c.args.text.now c.args.range.0 c.args.range.1 (string_bytes c.push_str-2.new.self) (returns-clause-bytes g c)

-- and safe, if the range doesn't begin between a carriage return and a line feed
pub returns-clause-safe : goal.returns-clause-safe
returns-clause-safe g c =
    let t = c.args.text.now in
    let first = rw c.new.ensures at c.in-Some.ensures in
    let good = range_divided t c.args.range c.if-end-start.false first c.in-Some-divide.ensures
    (sym c.is_char_boundary.ensures.value ∙ c.if-not-is_char_boundary.false) in
    λ links safe apart. subst (λ u. IsTrue (is_safe links u)) (sym (returns-clause-bytes g c)) (safe-removed links t c.args.range c.utf8.text good safe apart)
