-- The ends of a range that is written with its last position.
use Rattle.std.specs.Prelude.{ℕ, ◌+◌, ◌-◌, ◌^◌, ◌==◌, if◌then◌else◌, Option, Some, None}

-- the end of a range with the last position n is the position after n; after the largest there is none (own)
abbrev pub past_inclusive : ℕ → Option ℕ
past_inclusive n = if n == 2 ^ 64 - 1 then None else Some (n + 1)
