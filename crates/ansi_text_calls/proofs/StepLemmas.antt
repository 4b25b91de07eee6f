-- The texts of steps in turn: the patterns of edits, and the tails of edits by columns.
use Rattle.std.proofs.Common.{◌≡◌, ◌∙◌, Bool, true, false, ◌&&◌, ℕ, ◌+◌, ◌<◌, List, length, drop, get_or, map, IsTrue, refl, sym, ap}
use Rattle.std.proofs.lemmas.Bool.{true≢false, false_from_ne_true}
use Rattle.std.proofs.lemmas.List.{drop_more}
use Rattle.std.proofs.lemmas.List.Folds.{list_all-map, list_all_at}
use Rattle.std.proofs.lemmas.Str.{IsUtf8-from_is_utf8, is_utf8-from_IsUtf8}
use Rattle.std.specs.List.{list_all}
use Rattle.std.specs.Str.{is_utf8, IsUtf8}

module _ {S : Type 0} (text : S → List ℕ) where
  -- the texts of the steps from k on are UTF-8
  abbrev are_good : List S → ℕ → Bool
  are_good steps k = list_all is_utf8 (map text (drop k steps))

  texts-next : (steps : List S) (k : ℕ) (d : S) → k < length steps → are_good steps k ≡ (is_utf8 (text (get_or steps k d)) && are_good steps (k + 1))
  texts-next steps k d below = ap (λ left. list_all is_utf8 (map text left)) (drop_more steps k d below)

  -- the text of the step at k is UTF-8, so the others decide
  pub text-good : (steps : List S) (k : ℕ) (d : S) → k < length steps → IsUtf8 (text (get_or steps k d)) → are_good steps k ≡ are_good steps (k + 1)
  text-good steps k d below good = texts-next steps k d below ∙ ap (λ first. first && are_good steps (k + 1)) (is_utf8-from_IsUtf8 _ good)

  -- the text of the step at k isn't
  pub text-bad : (steps : List S) (k : ℕ) (d : S) → k < length steps → ¬ (IsUtf8 (text (get_or steps k d))) → are_good steps k ≡ false
  text-bad steps k d below bad =
      texts-next steps k d below ∙ ap (λ first. first && are_good steps (k + 1)) (false_from_ne_true _ (λ good. bad (IsUtf8-from_is_utf8 _ good)))

  -- all texts are
  pub text-at : (steps : List S) (k : ℕ) (d : S) → k < length steps → IsTrue (list_all is_utf8 (map text steps)) → IsUtf8 (text (get_or steps k d))
  text-at steps k d below all = IsUtf8-from_is_utf8 _ (tested (is_utf8 (text (get_or steps k d))) refl)
    where
      tested : (is : Bool) → is_utf8 (text (get_or steps k d)) ≡ is → is_utf8 (text (get_or steps k d)) ≡ true
      tested true told = told
      tested false told = absurd (true≢false (sym all ∙ list_all-map is_utf8 text steps ∙ list_all_at (λ step. is_utf8 (text step)) steps k d below told))
