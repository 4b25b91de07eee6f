-- What is known of a style after a sequence depends on what was known before, and on the sequence.
use Rattle.ansi_style.proofs.Common.{◌≡◌, ℕ, zero, suc, true, false, List, [], ◌∷◌, length, Option, Some, None, is_some, refl, sym, ◌∙◌, ap, rules, cond_both, AllByRecursion, option_map_or, is_in_range, AnsiColor, is_sgr, sgr_parameters, Rendition, known, Effect, Changes, ReadsColor, Rows, table, rows, unknown_code, effect_of, code_of, effect_of_code, perform, steps, apply, apply_parameters, fields_of, apply_all, arith}
use Rattle.std.proofs.Common.{find}

-- what holds of an unknown code, and of each row for the codes in its range, holds of each field
pub effect_holds : (P : Effect → Type 0) → P unknown_code → AllByRecursion (λ (r : Rows). (n : ℕ) → is_in_range r.first r.last n ≡ true → P (r.effect n)) table → (field : List ℕ) → P (effect_of field)
effect_holds P unknown all field = by_code (code_of field)
  where
    found : (rows : List Rows) (n : ℕ) → AllByRecursion (λ (r : Rows). (n : ℕ) → is_in_range r.first r.last n ≡ true → P (r.effect n)) rows
        → P (option_map_or (λ (r : Rows). r.effect n) (find (λ (r : Rows). is_in_range r.first r.last n) rows) unknown_code)
    found [] n all = unknown
    found (r ∷ rows) n all =
        let Q : Option Rows → Type 0 = λ o. P (option_map_or (λ (r : Rows). r.effect n) o unknown_code) in
        cond_both (is_in_range r.first r.last n) (Some r) (find (λ (r : Rows). is_in_range r.first r.last n) rows) Q (all.0 n) (λ other. found rows n all.1)

    by_code : (o : Option ℕ) → P (option_map_or effect_of_code o unknown_code)
    by_code None = unknown
    by_code (Some n) = found table n all

-- what is known after the effect depends on what was known before
abbrev KeepsApart : Effect → Type 0
KeepsApart (Changes f) = (s : Rendition) → known (f s) ≡ known (f (known s))
KeepsApart (ReadsColor put) = (c : AnsiColor) (s : Rendition) → known (put c s) ≡ known (put c (known s))

-- each row of the table, by computation
effect_keeps_apart : (field : List ℕ) → KeepsApart (effect_of field)
effect_keeps_apart = effect_holds KeepsApart (λ s. refl) (search rules)

-- if two styles are known alike, so are the styles after the same effect
perform-known : (e : Effect) (fields : List (List ℕ)) (s t : Rendition) → KeepsApart e → known s ≡ known t → known (perform e s fields).0 ≡ known (perform e t fields).0
perform-known e fields s t apart same = grind arith

perform-rest : (e : Effect) (fields : List (List ℕ)) (s t : Rendition) → (perform e s fields).1 ≡ (perform e t fields).1
perform-rest (Changes f) fields s t = refl
perform-rest (ReadsColor put) fields s t = refl

steps-known : (n : ℕ) (s t : Rendition) (fields : List (List ℕ)) → known s ≡ known t → known (steps n s fields) ≡ known (steps n t fields)
steps-known zero s t fields same = same
steps-known (suc n) s t [] same = steps-known n s t [] same
steps-known (suc n) s t (field ∷ fields) same =
    let e = effect_of field in
    steps-known n (perform e s fields).0 (perform e t fields).0 (perform e s fields).1 (perform-known e fields s t (effect_keeps_apart field) same)
    ∙ ap (λ rest. known (steps n (perform e t fields).0 rest)) (perform-rest e fields s t)

pub apply-known : (s : Rendition) (w : List ℕ) → known (apply s w) ≡ known (apply (known s) w)
apply-known s w = by_parameters (sgr_parameters w)
  where
    by_parameters : (o : Option (List ℕ)) → known (option_map_or (apply_parameters s) o s) ≡ known (option_map_or (apply_parameters (known s)) o (known s))
    by_parameters None = refl
    by_parameters (Some parameters) = steps-known (length (fields_of parameters)) s (known s) (fields_of parameters) refl

-- So styles that are known alike stay so.

pub apply-alike : (s t : Rendition) (w : List ℕ) → known s ≡ known t → known (apply s w) ≡ known (apply t w)
apply-alike s t w same = apply-known s w ∙ ap (λ k. known (apply k w)) same ∙ sym (apply-known t w)

pub apply_all-alike : (s t : Rendition) (ws : List (List ℕ)) → known s ≡ known t → known (apply_all s ws) ≡ known (apply_all t ws)
apply_all-alike s t [] same = same
apply_all-alike s t (w ∷ ws) same = apply_all-alike (apply s w) (apply t w) ws (apply-alike s t w same)

-- what is no SGR changes no style
pub apply-no_sgr : (style : Rendition) (w : List ℕ) → is_sgr w ≡ false → apply style w ≡ style
apply-no_sgr style w other = by_parameters (sgr_parameters w) other
  where
    by_parameters : (o : Option (List ℕ)) → is_some o ≡ false → option_map_or (apply_parameters style) o style ≡ style
    by_parameters None other = refl
    by_parameters (Some p) other = absurd (cc other)
