-- The result of a call, and the contents of its buffer after it.
use Rattle.std.specs.Prelude.{◌≡◌, ◌⊎◌, ◌<◌, ◌≤◌, ℕ, Bool, not, List, [], ◌∷◌, ◌++◌, drop, length, Option, None, Some, IsTrue, IsUtf8, if◌then◌else◌}
use Rattle.std.specs.Str.{IsCharBoundary}
use Rattle.std.specs.Str.Pattern.{FindsText, MatchBeginsAt}
use Rattle.ansi_str.specs.Changes.{Change}
use Rattle.ansi_str.specs.Edited.{edited, stay_borrowed}
use Rattle.ansi_text_calls.specs.declared.answers.Answer.{Answer}

-- the statuses, by the numbers that the header gives them
abbrev pub ok : ℕ
ok = 0

abbrev pub no : ℕ
no = 1

abbrev pub refused : ℕ
refused = 2

abbrev pub not_utf8 : ℕ
not_utf8 = 3

abbrev pub too_small : ℕ
too_small = 4

abbrev pub out_of_memory : ℕ
out_of_memory = 5

-- a call that succeeds returns a length, and one that fails returns 0
abbrev pub done : ℕ → Answer
done len = record { status = ok; len = len }

abbrev pub failed : ℕ → Answer
failed status = record { status = status; len = 0 }

-- a test returns its result as a status
abbrev pub told : Bool → Answer
told is_so = if is_so then done 0 else failed no

-- a call whose texts are all UTF-8 does `Done`, and any other call does `Failed`
abbrev pub OnUtf8 : List (List ℕ) → Type 0 → Type 0 → Type 0
OnUtf8 [] Done Failed = Done
OnUtf8 (t ∷ ts) Done Failed = (IsUtf8 t × OnUtf8 ts Done Failed) ⊎ ((¬ (IsUtf8 t)) × Failed)

-- a call fails, and the buffer is unchanged
abbrev pub HasFailed : ℕ → Answer → List ℕ → List ℕ → Type 0
HasFailed status answer old new = (answer ≡ failed status) × (new ≡ old)

-- the text is at the front of the buffer, and the rest of the buffer is unchanged; or there is no room for it, and the buffer is unchanged
abbrev pub IsWritten : List ℕ → Answer → List ℕ → List ℕ → Type 0
IsWritten text answer old new =
    ((length text ≤ length old) × (answer ≡ done (length text)) × (new ≡ text ++ drop (length text) old))
    ⊎ ((length old < length text) × (answer ≡ record { status = too_small; len = length text }) × (new ≡ old))

-- a call writes the text that it finds, or fails with the status `absent` if there is none
abbrev pub IsFound : ℕ → Option (List ℕ) → Answer → List ℕ → List ℕ → Type 0
IsFound absent None answer old new = HasFailed absent answer old new
IsFound absent (Some text) answer old new = IsWritten text answer old new

-- the same, or the call runs out of memory, if it allocates
abbrev pub Gives : ℕ → Bool → Option (List ℕ) → Answer → List ℕ → List ℕ → Type 0
Gives absent takes_memory found answer old new =
    IsFound absent found answer old new ⊎ (IsTrue takes_memory × HasFailed out_of_memory answer old new)

-- a call writes the text after all changes, or fails with the status `absent` if one is refused
unfoldable pub GivesEdited : ℕ → List Change → List ℕ → Answer → List ℕ → List ℕ → Type 0
GivesEdited absent es t answer old new = Gives absent (not (stay_borrowed es t)) (edited es t) answer old new

-- a call returns the last character boundary of x that isn't past the index (std's `floor_char_boundary`)
abbrev pub TellsBoundary : List ℕ → ℕ → Answer → Type 0
TellsBoundary x index answer = (place : ℕ) × (answer ≡ done place) × (place ≤ index) × IsCharBoundary x place
    × ((i : ℕ) → place < i → i ≤ index → ¬ (IsCharBoundary x i))

-- a call returns the position of the first match of p in x, or that there is none
abbrev pub TellsPlace : List ℕ → List ℕ → Answer → Type 0
TellsPlace p x answer =
    ((answer ≡ failed no) × FindsText p x None)
    ⊎ ((place : ℕ) × (answer ≡ done place) × MatchBeginsAt (FindsText p) x place)
