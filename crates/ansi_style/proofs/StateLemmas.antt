-- The steps of the table, one field after another.
use Rattle.ansi_style.proofs.Common.{◌≡◌, ℕ, zero, suc, ◌<◌, ◌≤◌, List, ◌∷◌, length, refl, sym, ◌∙◌, ap, ap₂, arith, Option, Some, option_map_or, Rendition, sgr_parameters, Effect, unknown_code, effect_of_code, code_of, effect_of, perform, step, steps, fields_of, apply_parameters, apply, first_field, []}
use Rattle.ansi_style.specs.Fields.{changed}
use Rattle.ansi_style.proofs.CodeLemmas.{perform-alone}

perform-left : (e : Effect) (s : Rendition) (fields : List (List ℕ)) → length (perform e s fields).1 ≤ length fields
perform-left e s fields = grind arith

-- a step takes one field, and more if it reads a color
pub step-left : (s : Rendition) (field : List ℕ) (fields : List (List ℕ)) → length (step s (field ∷ fields)).1 ≤ length fields
step-left s field fields = perform-left (effect_of field) s fields

steps-none : (n : ℕ) (s : Rendition) → steps n s [] ≡ s
steps-none zero s = refl
steps-none (suc n) s = steps-none n s

-- as many steps as there are fields read all fields
steps-enough : (n m : ℕ) (s : Rendition) (fields : List (List ℕ)) → length fields ≤ n → length fields ≤ m → steps n s fields ≡ steps m s fields
steps-enough n m s [] below_n below_m = steps-none n s ∙ sym (steps-none m s)
steps-enough zero m s (field ∷ fields) below_n below_m = absurd (omega arith)
steps-enough (suc n) zero s (field ∷ fields) below_n below_m = absurd (omega arith)
steps-enough (suc n) (suc m) s (field ∷ fields) below_n below_m =
    let fewer = step-left s field fields in
    steps-enough n m (step s (field ∷ fields)).0 (step s (field ∷ fields)).1 (omega arith) (omega arith)

-- the style after all the fields
abbrev pub after_fields : Rendition → List (List ℕ) → Rendition
after_fields s fields = steps (length fields) s fields

-- it is that after the fields that the first step leaves
pub after_fields-step : (s : Rendition) (field : List ℕ) (fields : List (List ℕ))
    → after_fields s (field ∷ fields) ≡ after_fields (step s (field ∷ fields)).0 (step s (field ∷ fields)).1
after_fields-step s field fields =
    let next = step s (field ∷ fields) in
    steps-enough (length fields) (length next.1) next.0 next.1 (step-left s field fields) (omega arith)

-- a field that is read as a code is the first, and the style after all fields is that after those that it leaves, which are fewer
pub after_fields-code : (s p : Rendition) (fields rest left : List (List ℕ)) (code : Option ℕ) → (Some code, rest) ≡ first_field code_of fields
    → (p, left) ≡ perform (option_map_or effect_of_code code unknown_code) s rest → (after_fields p left ≡ after_fields s fields) × (length left < length fields)
after_fields-code s p [] rest left code first done = absurd (let none = ap (λ x. x.0) first in cc)
after_fields-code s p (field ∷ fields) rest left code first done =
    let is : code ≡ code_of field = (let same = ap (λ x. x.0) first in cc) in
    let next : (p, left) ≡ step s (field ∷ fields)
    = done ∙ ap₂ (λ o fs. perform (option_map_or effect_of_code o unknown_code) s fs) is (ap (λ x. x.1) first) in
    let fewer = step-left s field fields in
    (ap (λ x. after_fields x.0 x.1) next ∙ sym (after_fields-step s field fields), omega (arith, ap (λ x. length x.1) next))

-- an SGR does what its fields do
pub apply-parameters : (s : Rendition) (w parameters : List ℕ) → sgr_parameters w ≡ Some parameters → apply s w ≡ after_fields s (fields_of parameters)
apply-parameters s w parameters is = ap (λ o. option_map_or (apply_parameters s) o s) is

-- and one of a single code changes the style at once
pub apply-code : (s : Rendition) (w parameters : List ℕ) (code : ℕ) → sgr_parameters w ≡ Some parameters → fields_of parameters ≡ parameters ∷ [] → code_of parameters ≡ Some code
    → apply s w ≡ changed (effect_of_code code) s
apply-code s w parameters code is one read =
    apply-parameters s w parameters is ∙ ap (after_fields s) one
    ∙ ap (λ o. (perform (option_map_or effect_of_code o unknown_code) s []).0) read
    ∙ ap (λ x. x.0) (perform-alone (effect_of_code code) s)
