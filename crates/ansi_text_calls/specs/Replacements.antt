-- What the call for many ranges does, each with a text in its place. A text that isn't UTF-8 makes it fail with the status `not_utf8`, and what it writes to is unchanged.
use Rattle.std.specs.Prelude.{ℕ, not, ◌==◌, List, ◌∷◌, length, map, Option, None, Some, if◌then◌else◌}
use Rattle.ansi_items.specs.Plain.{plain}
use Rattle.ansi_restyle.specs.Ranges.{are_in_turn}
use Rattle.ansi_restyle.specs.ReplacedEach.{Swap, ranges_of, replaced_each}
use Rattle.ansi_text_calls.specs.declared.answers.Answer.{Answer}
use Rattle.ansi_text_calls.specs.declared.replacements.ReplacementEntry.{ReplacementEntry}
use Rattle.ansi_text_calls.specs.Answers.{refused, not_utf8, OnUtf8, HasFailed, Gives}

-- what the entries of a caller say
abbrev pub swaps_of_entries : List ReplacementEntry → List Swap
swaps_of_entries entries = map (λ (e : ReplacementEntry). record { range = (e.start, e.end); text = e.with.now }) entries

-- the new text of an entry
abbrev pub new_text : ReplacementEntry → List ℕ
new_text entry = entry.with.now

abbrev pub new_texts : List ReplacementEntry → List (List ℕ)
new_texts entries = map new_text entries

-- the text t with each text in place of its range, if the ranges are in turn
abbrev pub replaced_each_or_none : List ℕ → List Swap → Option (List ℕ)
replaced_each_or_none t es = if are_in_turn (plain t) 0 (ranges_of es) then Some (replaced_each t es) else None

-- a call writes that text, and allocates only if there is a range; it is refused if there is no such text
unfoldable pub GivesReplacedEach : List ℕ → List Swap → Answer → List ℕ → List ℕ → Type 0
GivesReplacedEach t es answer old new = Gives refused (not (length es == 0)) (replaced_each_or_none t es) answer old new

-- `replace_each` does so
abbrev pub ReplacesEach : List ℕ → List ReplacementEntry → Answer → List ℕ → List ℕ → Type 0
ReplacesEach t entries answer old new =
    OnUtf8 (t ∷ new_texts entries) (GivesReplacedEach t (swaps_of_entries entries) answer old new) (HasFailed not_utf8 answer old new)
