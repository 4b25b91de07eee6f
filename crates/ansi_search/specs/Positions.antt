-- Positions of a plain text at which it may be cut.
use Rattle.std.specs.Prelude.{ℕ, Bool, ◌&&◌, ◌||◌, not, List, length, nat_le, ◌==◌, Option, Some, None, slice_index}
use Rattle.std.specs.Int.{is_in_range}
use Rattle.ansi_items.specs.Plain.{plain}

-- a continuation byte continues the character before it (UTF-8)
abbrev pub is_continuation_byte : ℕ → Bool
is_continuation_byte b = is_in_range 0x80 0xBF b

-- no character of the plain text x goes on at n: the byte there is no continuation byte, or x has no byte there
abbrev pub no_character_goes_on : List ℕ → ℕ → Bool
no_character_goes_on x n = not (is_continuation_byte (slice_index x n))

-- a position is good at 0, at the end of the plain text x, past it, and where no character goes on (std's boundaries; past the end, the Rust crate)
abbrev pub is_good_position : List ℕ → ℕ → Bool
is_good_position x n = n == 0 || no_character_goes_on x n

-- at a character boundary no character of x goes on, and it isn't past the end (std)
abbrev pub is_char_boundary : List ℕ → ℕ → Bool
is_char_boundary x n = nat_le n (length x) && no_character_goes_on x n

-- a range is good if its ends are good, and no end is below the start (std)
abbrev pub is_good_range : List ℕ → ℕ → Option ℕ → Bool
is_good_range x s None = is_good_position x s
is_good_range x s (Some e) = nat_le s e && (is_good_position x s && is_good_position x e)

-- a text t may be divided at 0, at its own length and past that, and else at the good positions of its plain text; all of these are good if t is UTF-8 (own)
abbrev pub is_position_in : List ℕ → ℕ → Bool
is_position_in t n = n == 0 || (nat_le (length t) n || is_good_position (plain t) n)

-- a text t may be cut between such positions, in order
abbrev pub is_range_in : List ℕ → ℕ → Option ℕ → Bool
is_range_in t s None = is_position_in t s
is_range_in t s (Some e) = nat_le s e && (is_position_in t s && is_position_in t e)
