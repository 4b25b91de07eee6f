-- What the code reads from a field; no public contract cites it.
use Rattle.std.specs.Prelude.{ℕ, ◌+◌, ◌-◌, ◌*◌, ◌&&◌, ◌≡◌, ◌⊎◌, List, [], ◌∷◌, Option, Some, None, if◌then◌else◌, nat_le}
use Rattle.std.specs.Char.{is_ascii_digit}
use Rattle.ansi_style.specs.Rendition.{Rendition}
use Rattle.ansi_style.specs.Sgr.{Effect, Changes}

-- the first field, converted by `read`, and the fields after it
abbrev pub first_field : {A : Type 0} → (List ℕ → A) → List (List ℕ) → Option A × List (List ℕ)
first_field read [] = (None, [])
first_field read (field ∷ fields) = (Some (read field), fields)

-- a number with one more digit; after any other byte, and after a number above 255, it is 256 and stays so
abbrev pub with_digit : ℕ → ℕ → ℕ
with_digit n b = if is_ascii_digit b && nat_le n 255 then n * 10 + (b - 48) else 256

-- the codes that read a color from the fields after them
abbrev pub ReadsColor : ℕ → Type 0
ReadsColor code = (code ≡ 38) ⊎ ((code ≡ 48) ⊎ (code ≡ 58))

-- the style after an effect with no fields to read
abbrev pub changed : Effect → Rendition → Rendition
changed (Changes f) s = f s
changed _ s = s
