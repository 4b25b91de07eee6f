-- A part that ends in the plain run at the front.
use Rattle.std.specs.Prelude.{true, IfSome, ◌⊎◌, ◌≢◌}
use Rattle.std.proofs.Common.{Bor}
use Rattle.ansi_split.proofs.Common.{◌≡◌, ◌==◌, ne_eqb, eqb-false, inl, inr, false, ℕ, ◌≤◌, List, [], ◌∷◌, length, take, drop, max, Bool, Option, Some, None, MatchOption, if◌then◌else◌, refl, sym, ◌∙◌, ap, ap₂, arith, take_all, IsTrue, IsFalse, IsCharBoundary, plain, has_escape, is_char_boundary, Rendition, IsStyle, has_any, IsCutAtMatch, first_match_from, parts_left, span_part, CarriedPart}
use Rattle.ansi_split.specs.Spans.{IsBareFirst, IsRunFirst}
use Rattle.ansi_split.specs.Cursors.{parts_at}
use Rattle.ansi_split.specs.declared.split.cursors.Cursor.{Cursor}
use Rattle.ansi_split.proofs.RestLemmas.{style-bare, no_escape-parts}
use Rattle.ansi_split.proofs.SpanLemmas.{parts_left-first, parts_left-last, skip_in_front}
use Rattle.ansi_split.proofs.SpanWalkLemmas.{boundary-bare}
use Rattle.ansi_split.proofs.SplitLemmas.{bare-empty, bare-unstyled, bytes-styled, owned-styled, span_part-drop}
use Rattle.ansi_split.proofs.PartLengthLemmas.{length-span_part}

-- the bytes that are left out end with a character of the stretch
pub skip_in_bare : (t p : List ℕ) (skip from : ℕ) (front after : List ℕ) → IsFalse (has_escape front) → IsCutAtMatch t p from front after → skip ≤ from → IsTrue (is_char_boundary (plain t) skip) → IsCharBoundary front skip
skip_in_bare t p skip from front after none cut before boundary = boundary-bare front skip none (skip_in_front t p skip from front after cut before boundary)

-- a match ends it
pub first_in_run : (c : Rendition) (t p : List ℕ) (skip from : ℕ) (front after : List ℕ) → IsFalse (has_escape front) → IsCutAtMatch t p from front after → IsCharBoundary front skip
    → parts_left c t p skip from ≡ span_part c (drop skip front) 0 ∷ parts_left c after p (length p) (max (length p) 1)
first_in_run c t p skip from front after none cut boundary =
    parts_left-first c t p skip from front after cut
    ∙ ap₂ (λ q r. q ∷ parts_left r after p (length p) (max (length p) 1)) (span_part-drop c front skip none boundary.0) (style-bare c front none)

-- the text ends it
pub last_in_run : (c : Rendition) (t p : List ℕ) (skip from : ℕ) → IsFalse (has_escape t) → first_match_from (plain t) p from ≡ None → IsCharBoundary t skip
    → parts_left c t p skip from ≡ span_part c (drop skip t) 0 ∷ []
last_in_run c t p skip from none last boundary = parts_left-last c t p skip from last ∙ ap (λ q. q ∷ []) (span_part-drop c t skip none boundary.0)

-- a cursor by its fields
pub parts_at-is : {finished : Bool} (c : Rendition) (at : Cursor) (t p : List ℕ) (skip from : ℕ) → at.finished ≡ finished → at.rest.text.now ≡ t → at.skip ≡ skip → at.from ≡ from
    → parts_at c at p ≡ (if finished then [] else parts_left c t p skip from)
parts_at-is {finished} c at t p skip from finished_is text_is skip_is from_is =
    ap (λ b. if b then [] else parts_left c at.rest.text.now p at.skip at.from) finished_is
    ∙ ap (λ ps. if finished then [] else ps) (ap₂ (λ u n. parts_left c u p n at.from) text_is skip_is ∙ ap (parts_left c t p skip) from_is)

-- all of the text is the run
pub bare_if_run : (t : List ℕ) (run : ℕ) → IsFalse (has_escape (take run t)) → run ≡ length t → IsFalse (has_escape t)
bare_if_run t run none all = ap has_escape (sym (take_all run t (omega (arith, all)))) ∙ none

-- it has no ESC
pub no_escape-rest : (t : List ℕ) (skip : ℕ) → IsFalse (has_escape t) → IsFalse (has_escape (drop skip t))
no_escape-rest t skip none = (no_escape-parts skip t none).1

-- if no style is carried into it, it is a borrow
pub bare_first : (c : Rendition) (run : List ℕ) (old new : List CarriedPart) → IsStyle c → IsFalse (has_any c) → IsFalse (has_escape run) → old ≡ span_part c run 0 ∷ new → IsBareFirst old run new
bare_first c run old new style unset none first =
    let bare = bare-unstyled c run 0 none (omega arith) unset in
    (span_part c run 0, first, bare.bytes, bare.borrowed, length-span_part c run 0 style refl)

-- the same as a run: it is a borrow if it is empty, or nothing is carried into it
pub run_first-bare : (c : Rendition) (run : List ℕ) {old new : List CarriedPart} → IsFalse (has_escape run) → (0 ≡ length run) ⊎ IsFalse (has_any c) → old ≡ span_part c run 0 ∷ new → IsRunFirst old None run new
run_first-bare c run none (inl empty) first = (let bare = bare-empty c run 0 none empty in (span_part c run 0, first, bare.borrowed, bare.bytes))
run_first-bare c run none (inr unset) first = (let bare = bare-unstyled c run 0 none (omega arith) unset in (span_part c run 0, first, bare.borrowed, bare.bytes))

-- and else it has the style around it
pub run_first-styled : (c : Rendition) (run : List ℕ) {old new : List CarriedPart} → IsFalse (has_escape run) → (length run == 0) ≡ false → IsTrue (has_any c) → old ≡ span_part c run 0 ∷ new → IsRunFirst old (Some c) run new
run_first-styled c run none some any first =
    let filled : (0 == length run) ≡ false = ne_eqb 0 (length run) (λ empty. omega (arith, empty, eqb-false (length run) 0 some)) in
    (span_part c run 0, first, owned-styled c run 0 none filled any, bytes-styled c run none filled any)

pub bare_next : {old new old' new' : List CarriedPart} (c : Rendition) (r : Option (Bor (List ℕ))) → old ≡ old' → new ≡ new' → IsStyle c → IsFalse (has_any c) → IfSome r (λ x. IsFalse (has_escape x.now))
    → MatchOption r (new ≡ old) (λ x. old ≡ span_part c x.now 0 ∷ new) → MatchOption r (new' ≡ old') (λ x. IsBareFirst old' x.now new')
bare_next c None old_is new_is style unset none same = sym new_is ∙ same ∙ old_is
bare_next {old} {new} {old'} {new'} c (Some x) old_is new_is style unset none first =
    bare_first c x.now old' new' style unset none (sym old_is ∙ first ∙ ap (λ ps. span_part c x.now 0 ∷ ps) new_is)

-- the same of parts that are named otherwise
pub run_next : {old new old' new' : List CarriedPart} (c : Rendition) (r : Option (Bor (List ℕ))) → old ≡ old' → new ≡ new' → MatchOption r (new ≡ old) (λ x. old ≡ span_part c x.now 0 ∷ new)
    → MatchOption r (new' ≡ old') (λ x. old' ≡ span_part c x.now 0 ∷ new')
run_next c None old_is new_is same = sym new_is ∙ same ∙ old_is
run_next c (Some x) old_is new_is first = sym old_is ∙ first ∙ ap (λ ps. span_part c x.now 0 ∷ ps) new_is

-- no part is left exactly if the walk has finished
pub finished-parts : (finished : Bool) (ps : List CarriedPart) → ps ≢ [] → (IsTrue finished → (if finished then [] else ps) ≡ []) × ((if finished then [] else ps) ≡ [] → IsTrue finished)
finished-parts true ps some = (λ _. refl, λ _. refl)
finished-parts false ps some = (λ no. absurd (cc no), λ none. absurd (some none))
