use Rattle.std.proofs.Common.{◌≡◌, ◌⊎◌, inl, inr, ℕ, ◌&&◌, true, List, [], ◌∷◌, Option, None, Some, option_map, option_and_then, refl, subst, rules, IsTrue, IsNone, IfOk}
use Rattle.std.proofs.lemmas.Bool.{and_parts}
use Rattle.std.specs.Cow.{cow_str_bytes}
use Rattle.std.specs.Option.{option_map_or}
use Rattle.ansi_str.specs.Changes.{Change}
use Rattle.ansi_str.specs.Edits.{change_of}
use Rattle.ansi_str.specs.Edited.{edited, edited_by, gives_borrow}
use Rattle.ansi_text_calls.proofs.texts.edit_text.Goals as goal

-- one change is a list of one

once : (e : Change) (t : List ℕ) → edited_by e t ≡ edited (e ∷ []) t
once e t = by (edited_by e t)
  where
    by : (o : Option (List ℕ)) → o ≡ option_and_then (edited []) o
    by None = refl
    by (Some u) = refl

lent : (Lent : Type 0) (e : Change) (t : List ℕ) → Lent → (o : Option (List ℕ)) → IsTrue (option_map_or (λ u. gives_borrow e t && true) o true) → IsNone o ⊎ (Lent × IsTrue (gives_borrow e t))
lent Lent e t is None stays = inl refl
lent Lent e t is (Some u) stays = inr (is, (and_parts _ _ stays).0)

pub returns-clause-bytes : goal.returns-clause-bytes
returns-clause-bytes g c = subst (λ x. IfOk c.edit_once.result (λ o. option_map cow_str_bytes o ≡ x)) (once (change_of c.args.change) c.args.text.now) c.edit_once.ensures.bytes

pub returns-clause-takes_no_memory : goal.returns-clause-takes_no_memory
returns-clause-takes_no_memory g c = λ stays.
    c.edit_once.ensures.takes_no_memory (lent _ (change_of c.args.change) c.args.text.now (search rules) (edited_by (change_of c.args.change) c.args.text.now) stays)
