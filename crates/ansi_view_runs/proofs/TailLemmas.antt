-- The changes of a job whose tails are made safe.
use Rattle.std.proofs.Common.{◌≡◌, ◌<◌, ◌≤◌, ℕ, ◌-◌, List, [], ◌∷◌, ◌++◌, map, length, take, drop, get_or, append-nil, append_assoc, refl, sym, ◌∙◌, ap, ap₂, arith, string_bytes}
use Rattle.std.specs.Prelude.{String}
use Rattle.std.proofs.lemmas.List.{take_all}
use Rattle.ansi_safe.specs.declared.policy.Policy.{Policy}
use Rattle.ansi_safe.specs.Sanitized.{sanitized}
use Rattle.ansi_lines_runs.specs.Runs.{words_of}
use Rattle.ansi_view_runs.specs.declared.edits.LineEdit.{LineEdit}
use Rattle.ansi_view_runs.specs.Edits.{Change, change_of, changes_of, tail_of, with_tail, with_tails}
use Rattle.ansi_view_runs.specs.Views.{Work, with_safe_tails}

-- each change with its own tail, made safe
pub tails-own : (policy : Policy) (changes : List Change)
    → with_tails (map (λ change. sanitized policy (tail_of change)) changes) changes ≡ map (λ change. with_tail (sanitized policy (tail_of change)) change) changes
tails-own policy [] = refl
tails-own policy (change ∷ changes) = ap (λ more. with_tail (sanitized policy (tail_of change)) change ∷ more) (tails-own policy changes)

-- so the job asks for what the words ask for
pub work-made : (work : Work) (made : List Change) → made ≡ map (λ change. with_tail (sanitized work.view.policy (tail_of change)) change) work.changes → record work { changes = made } ≡ with_safe_tails work
work-made work made is = ap (λ changes. record work { changes = changes }) is

-- as the code does it: the next edit gets the next tail
pub tails-next : {Y : Type 0} (all so_far after : List Change) (tails : List (String Y)) (left : List LineEdit) (tail : String Y) (edit or_else : LineEdit) → 1 ≤ length tails → 1 ≤ length left
    → tail ≡ get_or tails 0 tail → get_or left 0 or_else ≡ edit → after ≡ so_far ++ with_tail (string_bytes tail) (change_of edit) ∷ []
    → so_far ++ with_tails (words_of tails) (changes_of left) ≡ all
    → after ++ with_tails (words_of (take (length tails - 1) (drop 1 tails))) (changes_of (take (length left - 1) (drop 1 left))) ≡ all
tails-next all so_far after [] left tail edit or_else some any is first made joined = absurd (omega (arith, some))
tails-next all so_far after (t ∷ tails) [] tail edit or_else some any is first made joined = absurd (omega (arith, any))
tails-next all so_far after (t ∷ tails) (e ∷ left) tail edit or_else some any is first made joined =
    let rest = with_tails (words_of tails) (changes_of left) in
    ap₂ (λ ts es. after ++ with_tails (words_of ts) (changes_of es)) (take_all (length (t ∷ tails) - 1) tails (omega arith)) (take_all (length (e ∷ left) - 1) left (omega arith))
    ∙ ap (λ cs. cs ++ rest) made ∙ append_assoc so_far (with_tail (string_bytes tail) (change_of edit) ∷ []) rest
    ∙ ap₂ (λ s f. so_far ++ with_tail (string_bytes s) (change_of f) ∷ rest) is (sym first) ∙ joined

-- no edit is left, or no tail
pub edits-done : (so_far all : List Change) (tails : List (List ℕ)) (left : List LineEdit) → length left < 1 → so_far ++ with_tails tails (changes_of left) ≡ all → so_far ≡ all
edits-done so_far all tails [] none joined = sym (append-nil so_far) ∙ joined
edits-done so_far all tails (e ∷ left) none joined = absurd (omega (arith, none))

pub tails-done : {Y : Type 0} (so_far all : List Change) (tails : List (String Y)) (changes : List Change) → length tails < 1 → so_far ++ with_tails (words_of tails) changes ≡ all → so_far ≡ all
tails-done so_far all [] [] none joined = sym (append-nil so_far) ∙ joined
tails-done so_far all [] (change ∷ changes) none joined = sym (append-nil so_far) ∙ joined
tails-done so_far all (t ∷ tails) changes none joined = absurd (omega (arith, none))
