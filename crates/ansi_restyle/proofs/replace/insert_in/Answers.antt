use Rattle.std.proofs.Common.{◌≡◌, ◌↔◌, [], inl, inr, refl, ◌∙◌, subst, IfOk, IsFalse, IsNone}
use Rattle.std.specs.Cow.{IsBorrowedStr}
use Rattle.ansi_items.specs.Plain.{plain}
use Rattle.ansi_restyle.proofs.ReplacedLemmas.{good_position, by_both}
use Rattle.ansi_restyle.proofs.replace.insert_in.Goals as goal

pub returns-clause-none : goal.returns-clause-none
returns-clause-none g c =
    subst (λ b. IfOk c.replace_in.result (λ o. IsNone o ↔ IsFalse b)) (good_position (plain c.args.text.now) c.args.position) c.replace_in.ensures.none

pub returns-clause-borrowed : goal.returns-clause-borrowed
returns-clause-borrowed g c = by_both (λ t. IsBorrowedStr t) (c.args.position ≡ c.args.position) (c.args.with.now ≡ []) c.replace_in.result refl c.replace_in.ensures.borrowed

pub returns-clause-takes_no_memory : goal.returns-clause-takes_no_memory
returns-clause-takes_no_memory g c =
    λ either. c.replace_in.ensures.takes_no_memory (elim either [ inl none ↦ inl (refl, none) | inr bad ↦ inr (good_position (plain c.args.text.now) c.args.position ∙ bad) ])
