-- How many looks at the bytes of a text its items take. Of the public functions only `reads` cites this.
use Rattle.std.specs.Prelude.{◌≡◌, ℕ, ◌+◌, ◌*◌, ◌≤◌, List, length, drop, min}
use Rattle.std.specs.List.{prefix_len}
use Rattle.std.specs.Str.{IsCharBoundary, byte}
use Rattle.ansi_items.specs.Bytes.{is_body_byte, is_plain_byte}

-- how many bytes are before the first ESC
abbrev pub before_escape : List ℕ → ℕ
before_escape bytes = prefix_len is_plain_byte bytes

-- how many bytes are before the first BEL or ESC
abbrev pub before_bell : List ℕ → ℕ
before_bell bytes = prefix_len (is_body_byte (byte "]")) bytes

-- A scanner at this offset of the text knows the place of the next ESC. It has looked at each byte up to that ESC, and at most three times
-- at each byte before it.
pub record IsScanning (text : List ℕ) (offset place reads : ℕ) : Type 0 where
  pub boundary : IsCharBoundary text offset
  pub next : place ≡ offset + before_escape (drop offset text)
  pub each : min (place + 1) (length text) ≤ reads
  pub few : reads ≤ 2 * place + min (place + 1) (length text)
