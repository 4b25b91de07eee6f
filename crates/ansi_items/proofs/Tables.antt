-- Tables of worked examples, which each crate above has too.
use Rattle.ansi_items.proofs.Common.{◌≡◌, List, map, ℕ}
use Rattle.std.specs.Prelude.{codes}
use Rattle.std.specs.Str.{encode_utf8_all}
use Prim.Native.String.{String}

-- f makes of the first of each row the second
abbrev pub MakesRows : {A B : Type 0} → (A → B) → List (A × B) → Type 0
MakesRows {A} {B} f rows = map (λ (row : A × B). f row.0) rows ≡ map (λ (row : A × B). row.1) rows

-- the bytes of a text
abbrev pub utf8 : String → List ℕ
utf8 s = encode_utf8_all (codes s)
