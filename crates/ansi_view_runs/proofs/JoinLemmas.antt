-- The texts of a line, joined.
use Rattle.std.proofs.Common.{◌≡◌, ℕ, List, [], ◌∷◌, ◌++◌, refl, ap, sym}
use Rattle.std.specs.Prelude.{String, string_bytes}
use Rattle.std.specs.List.{join_by}
use Rattle.std.proofs.lemmas.List.Folds.{flat_map-map}
use Rattle.ansi_lines_runs.specs.Runs.{words_of}

-- strings are joined as their bytes are
pub joined_bytes : {Y : Type 0} (separator : List ℕ) (texts : List (String Y)) → join_by string_bytes separator texts ≡ join_by (λ t. t) separator (words_of texts)
joined_bytes separator [] = refl
joined_bytes separator (text ∷ more) = ap (λ bytes. string_bytes text ++ bytes) (sym (flat_map-map (λ t. separator ++ t) string_bytes more))
