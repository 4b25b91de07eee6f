use Rattle.std.proofs.Common.{◌≡◌, ◌==◌, ◌↔◌, Bool, true, false, not, length, inl, refl, ◌∙◌, ap, subst, IfOk, IfSome, IsFalse, IsNone}
use Rattle.std.specs.Cow.{cow_str_bytes}
use Rattle.std.proofs.lemmas.Bool.{true≢false, eqb-true}
use Rattle.std.proofs.lemmas.List.{nil_from_length}
use Rattle.ansi_items.specs.Plain.{plain}
use Rattle.ansi_restyle.specs.Ranges.{are_in_turn}
use Rattle.ansi_restyle.specs.ReplacedEach.{swaps_of, ranges_of, swap_nothing, replaced_each}
use Rattle.ansi_text_calls.specs.Answers.{refused}
use Rattle.ansi_text_calls.specs.Replacements.{swaps_of_entries, GivesReplacedEach}
use Rattle.ansi_text_calls.proofs.MadeLemmas.{Gives-if}
use Rattle.ansi_text_calls.proofs.replacements.replace_each_text.Goals as goal

not_false : (b : Bool) → IsFalse (not b) → b ≡ true
not_false true none = refl
not_false false none = absurd (true≢false none)

-- the replacements are those of the entries, and where there is none, nothing is allocated
pub returns-in-Ok : goal.returns-in-Ok
unfolding GivesReplacedEach
returns-in-Ok g c =
    let t = c.args.text.now in
    let es = swaps_of_entries c.args.entries.now in
    let is : swaps_of c.as_slice.result.now ≡ es = ap swaps_of c.as_slice.ensures.value ∙ c.in-Ok.ensures.swaps in
    let made = c.replace_each_in-replaced in
    Gives-if refused (not (length es == 0)) (are_in_turn (plain t) 0 (ranges_of es)) (replaced_each t es) made.result _ _ _
    (subst (λ qs. IfOk made.result (λ o. IsNone o ↔ IsFalse (are_in_turn (plain t) 0 (ranges_of qs)))) is made.ensures.none)
    (subst (λ qs. IfOk made.result (λ o. IfSome o (λ u. cow_str_bytes u ≡ replaced_each t qs))) is made.ensures.bytes)
    (λ none. made.ensures.takes_no_memory (inl (ap swap_nothing (is ∙ nil_from_length es (eqb-true (length es) 0 (not_false (length es == 0) none))))))
    c.write_found.ensures
