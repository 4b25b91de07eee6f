-- What each call of safe output does. A text that isn't UTF-8 makes it fail with the status `not_utf8`, and what it writes to is unchanged;
-- `sanitize_bytes` takes any bytes.
use Rattle.std.specs.Prelude.{◌≡◌, ℕ, not, ◌&&◌, ◌==◌, List, [], ◌∷◌, length, Option, None, Some, if◌then◌else◌}
use Rattle.std.specs.Str.{is_utf8}
use Rattle.std.specs.Str.Lossy.{utf8_lossy}
use Rattle.ansi_safe.specs.declared.policy.Links.{Links}
use Rattle.ansi_safe.specs.declared.policy.Links.TheVariants.{Keep, Remove}
use Rattle.ansi_safe.specs.declared.policy.Policy.{Policy}
use Rattle.ansi_safe.specs.declared.policy.Rest.{Rest}
use Rattle.ansi_safe.specs.declared.policy.Rest.TheVariants.{Drop, Show}
use Rattle.ansi_safe.specs.Links.{ending}
use Rattle.ansi_safe.specs.Safe.{is_safe}
use Rattle.ansi_safe.specs.Sanitized.{sanitized}
use Rattle.ansi_text_calls.specs.declared.answers.Answer.{Answer}
use Rattle.ansi_text_calls.specs.Answers.{no, refused, not_utf8, failed, told, OnUtf8, HasFailed, Gives}

-- what is made of what is unsafe, by the numbers that the header gives
abbrev pub rest_of : ℕ → Option Rest
rest_of n = if n == 0 then Some Drop else if n == 1 then Some Show else None

-- what is made of links, by the numbers that the header gives
abbrev pub links_of : ℕ → Option Links
links_of n = if n == 0 then Some Remove else if n == 1 then Some Keep else None

-- the policy of both, if there are both
abbrev pub policy_of : Option Rest → Option Links → Option Policy
policy_of None links = None
policy_of (Some rest) None = None
policy_of (Some rest) (Some links) = Some (record { rest = rest; links = links })

-- a call writes the text t made safe, and allocates only if t isn't safe or something is open at its end; it is refused if there is no such policy
unfoldable pub GivesSanitized : List ℕ → Option Policy → Answer → List ℕ → List ℕ → Type 0
GivesSanitized t None answer old new = HasFailed refused answer old new
GivesSanitized t (Some policy) answer old new =
    Gives no (not (is_safe policy.links t && length (ending t) == 0)) (Some (sanitized policy t)) answer old new

-- `sanitize` does so, with the policy of these numbers
abbrev pub Sanitizes : List ℕ → ℕ → ℕ → Answer → List ℕ → List ℕ → Type 0
Sanitizes t rest links answer old new =
    OnUtf8 (t ∷ []) (GivesSanitized t (policy_of (rest_of rest) (links_of links)) answer old new) (HasFailed not_utf8 answer old new)

-- a call writes the text of the bytes made safe, with U+FFFD for each sequence that isn't UTF-8 (std's `from_utf8_lossy`); it allocates only if
-- there is one, or the text isn't safe, or something is open at its end; it is refused if there is no such policy
unfoldable pub GivesSanitizedBytes : List ℕ → Option Policy → Answer → List ℕ → List ℕ → Type 0
GivesSanitizedBytes bytes None answer old new = HasFailed refused answer old new
GivesSanitizedBytes bytes (Some policy) answer old new =
    Gives no (not (is_utf8 bytes && (is_safe policy.links bytes && length (ending bytes) == 0)))
    (Some (sanitized policy (utf8_lossy bytes))) answer old new

-- `sanitize_bytes` does so, with the policy of these numbers
abbrev pub SanitizesBytes : List ℕ → ℕ → ℕ → Answer → List ℕ → List ℕ → Type 0
SanitizesBytes bytes rest links answer old new = GivesSanitizedBytes bytes (policy_of (rest_of rest) (links_of links)) answer old new

-- a call returns whether the text t is safe; it is refused if there is no such choice about links
abbrev pub TellsSafe : List ℕ → Option Links → Answer → Type 0
TellsSafe t None answer = answer ≡ failed refused
TellsSafe t (Some links) answer = answer ≡ told (is_safe links t)

-- `is_safe` does so, with the choice of this number
abbrev pub TestsSafe : List ℕ → ℕ → Answer → Type 0
TestsSafe t links answer = OnUtf8 (t ∷ []) (TellsSafe t (links_of links) answer) (answer ≡ failed not_utf8)
