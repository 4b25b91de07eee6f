use Rattle.ansi_split.proofs.Common.{[], ◌≡◌, ◌<◌, ℕ, List, ◌∷◌, Some, length, arith, slice_get, slice_index, take_rest}
use Rattle.ansi_split.proofs.RestLemmas.{ends_in_run}
use Rattle.ansi_split.proofs.split.rest.may_go_on.Goals as goal

slice_get-first_byte : (p : List ℕ) (b : ℕ) → Some b ≡ slice_get p 0 → (0 < length p) × (b ≡ slice_index p 0)
slice_get-first_byte [] b some = absurd (cc some)
slice_get-first_byte (a ∷ p) b some = (omega arith, cc some)

pub returns : goal.returns
returns c = grind (arith, ends_in_run, slice_get-first_byte, take_rest)
