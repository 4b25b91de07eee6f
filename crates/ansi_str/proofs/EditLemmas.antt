-- What changes in turn make of a whole text is the slice of its styled bytes that they name, whole, and closed if one of them closes.
use Rattle.ansi_str.proofs.Common.{◌≡◌, Bool, ◌||◌, List, [], ◌∷◌, ℕ, Option, Some, None, refl, sym, ◌∙◌, subst, IsTrue, if◌then◌else◌, IfSome, option_map, option_and_then, list_any, cond-true, is_whole, plain_style, StyledByte, styled, residue, Change, slice_of, meaning, edited_by, edited, closes, IsSliceNamed, arith}
use Rattle.ansi_str.proofs.ChangeLemmas.{IsAnswer, edited_by_answers}

-- a change, and then others of what it gave
in_turn : (closing more : Bool) (t : List ℕ) (slice : Option (List StyledByte)) (answer : Option (List ℕ)) (later : List StyledByte → Option (List StyledByte)) (next : List ℕ → Option (List ℕ))
    → IsAnswer closing t slice answer → ((u : List ℕ) → IsTrue (is_whole u) → IsAnswer more u (later (styled u)) (next u))
    → IsAnswer (closing || more) t (option_and_then later slice) (option_and_then next answer)
in_turn closing more t slice answer later next first others = grind arith

edited_answers : (es : List Change) (t : List ℕ) → IsTrue (is_whole t) → IsAnswer (list_any closes es) t (meaning es (styled t)) (edited es t)
edited_answers [] t whole = (refl, (whole, refl))
edited_answers (e ∷ es) t whole =
    in_turn (closes e) (list_any closes es) t (slice_of e (styled t)) (edited_by e t) (meaning es) (edited es) (edited_by_answers e t whole)
    (λ u whole_u. edited_answers es u whole_u)

-- Of changes in turn.

pub edited_is_slice : (es : List Change) (t : List ℕ) → IsTrue (is_whole t) → IsSliceNamed es t (edited es t)
edited_is_slice es t whole = (let answers = edited_answers es t whole in named (edited es t) answers.0 answers.1)
  where
    named : (o : Option (List ℕ)) → meaning es (styled t) ≡ option_map styled o → IfSome o (λ u. IsTrue (is_whole u) × (residue u ≡ (if list_any closes es then plain_style else residue t))) → IsSliceNamed es t o
    named None slice is = record { slice = slice; whole = tt; closed = tt }
    named (Some u) slice is = record { slice = slice; whole = is.0; closed = λ any. is.1 ∙ cond-true (list_any closes es) plain_style (residue t) any }

-- the known style at the end: none if one of them closes, else what the text leaves open
pub residue-edited : (es : List Change) (t u : List ℕ) → IsTrue (is_whole t) → edited es t ≡ Some u → residue u ≡ (if list_any closes es then plain_style else residue t)
residue-edited es t u whole found =
    (subst (λ o. IfSome o (λ v. IsTrue (is_whole v) × (residue v ≡ (if list_any closes es then plain_style else residue t)))) found (edited_answers es t whole).1).1

-- a result with these bytes is the slice that the changes name
pub is_slice_named : (es : List Change) (t : List ℕ) (answer : Option (List ℕ)) → IsTrue (is_whole t) → answer ≡ edited es t → IsSliceNamed es t answer
is_slice_named es t answer whole is = subst (IsSliceNamed es t) (sym is) (edited_is_slice es t whole)
