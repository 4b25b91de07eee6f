use Rattle.std.proofs.Common.{◌≡◌, ◌++◌, ◌-◌, List, ℕ, length, take, drop, ap, sym, ◌∙◌, subst, string_bytes, IsTrue}
use Rattle.std.proofs.lemmas.Bool.{and_parts, eqb-true}
use Rattle.std.proofs.lemmas.List.{nil_from_length}
use Rattle.ansi_items.specs.Pieces.{pieces_of}
use Rattle.ansi_items.specs.Plain.{plain, is_whole}
use Rattle.ansi_search.proofs.PositionLemmas.{no_character_goes_on-past}
use Rattle.ansi_slice.specs.Stretches.{sequences_up_to}
use Rattle.ansi_safe.specs.Safe.{is_safe}
use Rattle.ansi_style.specs.States.{rendition_of}
use Rattle.ansi_restyle.specs.Rests.{IsDivided}
use Rattle.ansi_restyle.specs.Replaced.{place_of, put, IsReplaced}
use Rattle.ansi_restyle.proofs.MatchLemmas.{some_if_good}
use Rattle.ansi_restyle.proofs.RemovedLemmas.{length-part}
use Rattle.ansi_restyle.proofs.ReplacedLemmas.{is_good_range, good_after_place, replaced-written, is_replaced, replaced-nothing, length-replaced}
use Rattle.ansi_restyle.proofs.SafePutLemmas.{safe-replaced}
use Rattle.ansi_restyle.proofs.replace.replace_in.Goals as goal

-- nothing in place of nothing

pub returns-then-is_empty-clause-bytes : goal.returns-then-is_empty-clause-bytes
returns-then-is_empty-clause-bytes g c =
    let w = c.args.with.now in
    sym (replaced-nothing c.args.text.now c.args.range.0 c.args.range.1 w c.if-start-end.true (nil_from_length w (eqb-true (length w) 0 (sym c.is_empty.ensures ∙ c.if-is_empty.true))))

pub returns-then-is_empty-clause-headline : goal.returns-then-is_empty-clause-headline
returns-then-is_empty-clause-headline g c =
    let t = c.args.text.now in
    let w = c.args.with.now in
    let good = is_good_range t c.args.range (sym c.are_in_turn.ensures ∙ c.if-not-are_in_turn.false) in
    λ whole. (
    let both = and_parts (is_whole t) (is_whole w) whole in
    subst (IsReplaced t c.args.range.0 c.args.range.1 w) (sym (returns-then-is_empty-clause-bytes g c)) (is_replaced t c.args.range.0 c.args.range.1 w good.ordered good.end_within both.0 both.1))

pub returns-then-is_empty-clause-safe : goal.returns-then-is_empty-clause-safe
returns-then-is_empty-clause-safe g c = λ links safe apart. (and_parts (is_safe links c.args.text.now) (is_safe links c.args.with.now) safe).0

-- the end of the range is good

pub unwrap-removed-requires : goal.unwrap-removed-requires
unwrap-removed-requires g c =
    let t = c.args.text.now in
    let is : c.new.result.text.now ≡ drop (place_of c.args.range.0 t) t = c.new.ensures ∙ c.split_at.ensures.back ∙ ap (λ k. drop k t) c.place_of-place.ensures.offset in
    some_if_good c.split_at-2.result _ _ c.split_at-2.ensures.divided (good_after_place t c.new.result.text.now c.args.range (sym c.are_in_turn.ensures ∙ c.if-not-are_in_turn.false) is)

-- all sequences of the range are written

pub push_sequences-requires : goal.push_sequences-requires
push_sequences-requires g c =
    let n = c.args.range.1 - c.args.range.0 in
    let at_end = c.unwrap-removed.result in
    let divided : IsDivided c.new.result.text.now n at_end.front.now at_end.rest.text.now = rw c.unwrap-removed.ensures at c.split_at-2.ensures.divided in
    no_character_goes_on-past (plain at_end.front.now) n (length-part n divided)

pub returns-clause-bytes : goal.returns-clause-bytes
returns-clause-bytes g c =
    let t = c.args.text.now in
    let a = c.args.range.0 in
    let b = c.args.range.1 in
    let at_end = c.unwrap-removed.result in
    let place = c.place_of-place.result in
    let before = c.split_at.result.0.now in
    let after = c.new.result.text.now in
    let s = rendition_of place.pen.style in
    let link = place.pen.link.now in
    let divided : IsDivided after (b - a) at_end.front.now at_end.rest.text.now = rw c.unwrap-removed.ensures at c.split_at-2.ensures.divided in
    c.in_ok-push_str-2.ensures.bytes
    ∙ ap (λ (u : List ℕ). u ++ at_end.rest.text.now)
    (c.in_ok-push_sequences.ensures.bytes
    ∙ ap (λ (u : List ℕ). u ++ sequences_up_to (b - a) (pieces_of at_end.front.now))
    (c.in_ok-push_put.ensures
    ∙ ap (λ (u : List ℕ). u ++ put s link c.args.with.now) (c.in_ok-push_str.ensures.bytes ∙ ap (λ (u : List ℕ). u ++ before) c.in_ok-replaced.ensures.bytes)))
    ∙ replaced-written t before after at_end.front.now at_end.rest.text.now c.args.with.now s link a b
    (c.split_at.ensures.front ∙ ap (λ k. take k t) c.place_of-place.ensures.offset)
    (c.new.ensures ∙ c.split_at.ensures.back ∙ ap (λ k. drop k t) c.place_of-place.ensures.offset)
    c.place_of-place.ensures.style c.place_of-place.ensures.link divided

pub returns-clause-headline : goal.returns-clause-headline
returns-clause-headline g c =
    let t = c.args.text.now in
    let w = c.args.with.now in
    let good = is_good_range t c.args.range (sym c.are_in_turn.ensures ∙ c.if-not-are_in_turn.false) in
    λ whole. (
    let both = and_parts (is_whole t) (is_whole w) whole in
    subst (IsReplaced t c.args.range.0 c.args.range.1 w) (sym (returns-clause-bytes g c)) (is_replaced t c.args.range.0 c.args.range.1 w good.ordered good.end_within both.0 both.1))

pub returns-clause-len : goal.returns-clause-len
returns-clause-len g c = length-replaced c.args.text.now c.args.range.0 c.args.range.1 c.args.with.now (string_bytes c.push_str-2.new.self) (returns-clause-bytes g c)

-- and safe, if the range doesn't begin between a carriage return and a line feed
pub returns-clause-safe : goal.returns-clause-safe
returns-clause-safe g c =
    let turn = sym c.are_in_turn.ensures ∙ c.if-not-are_in_turn.false in
    λ links safe apart. subst (λ u. IsTrue (is_safe links u)) (sym (returns-clause-bytes g c)) (safe-replaced links c.args.text.now c.args.range c.args.with.now c.utf8.text c.utf8.with turn safe apart)
