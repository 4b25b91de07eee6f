use Rattle.std.proofs.Common.{ℕ, List, ◌++◌, sym, ◌∙◌, ap, subst, rules, IsTrue}
use Rattle.std.proofs.lemmas.Bool.{and_parts}
use Rattle.ansi_items.specs.Plain.{is_whole}
use Rattle.ansi_safe.specs.Safe.{is_safe}
use Rattle.ansi_restyle.specs.ReplacedEach.{swaps_of, are_whole, are_safe, replaced_each, IsReplacedEach}
use Rattle.ansi_restyle.proofs.LengthEachLemmas.{length-replaced_each}
use Rattle.ansi_restyle.proofs.ReplacedEachLemmas.{is_replaced_each, replaced-nothing}
use Rattle.ansi_restyle.proofs.SafeEachLemmas.{safe-replaced_each, good_swaps}
use Rattle.ansi_restyle.proofs.replace_each.replace_each_in.Goals as goal

-- nothing in place of nothing

pub returns-then-edit_nothing-clause-bytes : goal.returns-then-edit_nothing-clause-bytes
returns-then-edit_nothing-clause-bytes g c = sym (replaced-nothing c.args.text.now (swaps_of c.args.edits.now) (sym c.edit_nothing.ensures ∙ c.if-edit_nothing.true))

pub returns-then-edit_nothing-clause-headline : goal.returns-then-edit_nothing-clause-headline
returns-then-edit_nothing-clause-headline g c =
    let t = c.args.text.now in
    let es = swaps_of c.args.edits.now in
    λ whole. (
    let both = and_parts (is_whole t) (are_whole es) whole in
    subst (IsReplacedEach t es) (sym (returns-then-edit_nothing-clause-bytes g c)) (is_replaced_each t es (sym c.edits_in_turn.ensures ∙ c.if-not-edits_in_turn.false) both.0 both.1))

pub returns-then-edit_nothing-clause-safe : goal.returns-then-edit_nothing-clause-safe
returns-then-edit_nothing-clause-safe g c = λ links safe outside. (and_parts (is_safe links c.args.text.now) (are_safe links (swaps_of c.args.edits.now)) safe).0

-- something

pub returns-clause-headline : goal.returns-clause-headline
returns-clause-headline g c =
    let t = c.args.text.now in
    let es = swaps_of c.args.edits.now in
    λ whole. (
    let both = and_parts (is_whole t) (are_whole es) whole in
    subst (IsReplacedEach t es) (search rules) (is_replaced_each t es (sym c.edits_in_turn.ensures ∙ c.if-not-edits_in_turn.false) both.0 both.1))

pub returns-clause-len : goal.returns-clause-len
returns-clause-len g c = length-replaced_each c.args.text.now (swaps_of c.args.edits.now) _ (sym c.edits_in_turn.ensures ∙ c.if-not-edits_in_turn.false) (search rules)

-- and safe, if no range begins between a carriage return and a line feed
pub returns-clause-safe : goal.returns-clause-safe
returns-clause-safe g c =
    let t = c.args.text.now in
    let es = swaps_of c.args.edits.now in
    let turn = sym c.edits_in_turn.ensures ∙ c.if-not-edits_in_turn.false in
    let bytes = c.in_ok-push_replaced_each.ensures.bytes ∙ ap (λ (u : List ℕ). u ++ replaced_each t es) c.in_ok-replaced.ensures.bytes in
    λ links safe outside. (
    let both = and_parts (is_safe links t) (are_safe links es) safe in
    subst (λ (u : List ℕ). IsTrue (is_safe links u)) (sym bytes) (safe-replaced_each links t es c.utf8.text both.0 (good_swaps links es c.in_ok-push_replaced_each.ensures.utf8 both.1) turn outside))
