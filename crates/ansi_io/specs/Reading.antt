-- When an input is read, and why reading stops.
use Rattle.std.specs.Prelude.{◌≡◌, ◌≤◌, ◌<◌, ◌+◌, ◌*◌, ◌⊎◌, ℕ, List, length, Bool, true, Option, None, Some, IfSome, ⊤, refl}
use Rattle.std.specs.Str.{IsUtf8}
use Rattle.ansi_io.specs.Devices.{count_after}
use Rattle.ansi_io.specs.declared.stop.Stop.{Stop}
use Rattle.ansi_io.specs.declared.stop.Stop.TheVariants.{Refused, BadInput, OutOfMemory, BadWords, WriteFailed}

-- the most bytes that an input may have, which is 1 MiB
abbrev pub max_bytes : ℕ
max_bytes = 1_048_576

-- the most reads of an input: for each byte of the longest input, and for its end, one that is interrupted and one that isn't
abbrev pub max_reads : ℕ
max_reads = 2_097_154

-- this is twice one more than the most bytes
max_reads-sum : max_reads ≡ 2 * (max_bytes + 1)
max_reads-sum = refl

-- an unfit input is too long, or isn't UTF-8
abbrev pub IsUnfit : List ℕ → Type 0
IsUnfit bytes = (max_bytes < length bytes) ⊎ (¬ (IsUtf8 bytes))

-- an input that doesn't report its bytes may be unfit
abbrev pub MayBeUnfit : Option (List ℕ) → Type 0
MayBeUnfit None = ⊤
MayBeUnfit (Some bytes) = IsUnfit bytes

-- an input is given up after the most reads, if one was interrupted
pub record IsGivenUp (interrupted : Bool) (reads_before reads_after : ℕ) : Type 0 where
  pub was_interrupted : interrupted ≡ true
  pub most_reads : count_after reads_before max_reads ≤ reads_after

-- an input is bad if it is unfit, a read of it failed, or it is given up
abbrev pub IsBadInput : Option (List ℕ) → Bool → Type 0 → Type 0
IsBadInput left failed given_up = MayBeUnfit left ⊎ (failed ≡ true) ⊎ given_up

-- an input that is read isn't unfit, and no read of it failed
pub record IsRead (left : Option (List ℕ)) (failed_before failed_after : Bool) : Type 0 where
  pub fit : IfSome left (λ bytes. ¬ (IsUnfit bytes))
  pub unfailed : failed_after ≡ failed_before

-- reading stops because memory has run out or the input is bad
abbrev pub StopsReading : Option (List ℕ) → Bool → Type 0 → Stop → Type 0
StopsReading left failed given_up OutOfMemory = ⊤
StopsReading left failed given_up BadInput = IsBadInput left failed given_up
StopsReading left failed given_up BadWords = ⊥
StopsReading left failed given_up WriteFailed = ⊥
StopsReading left failed given_up (Refused line) = ⊥
