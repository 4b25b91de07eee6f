-- Several texts in one buffer, and an entry for each in another buffer.
use Rattle.std.specs.Prelude.{◌≡◌, ◌⊎◌, ⊤, ◌<◌, ◌≤◌, ◌+◌, ℕ, Bool, true, List, [], ◌∷◌, ◌++◌, drop, length, flat_map, Result, Ok, Err, IsTrue}
use Rattle.std.specs.Borrow.{MutBor}
use Rattle.std.specs.Cow.{cow_str_bytes}
use Rattle.std.specs.declared.borrow.CowStr.{CowStr}
use Rattle.ansi_str.specs.Blocks.{Block}
use Rattle.ansi_text_calls.specs.declared.lists.ListAnswer.{ListAnswer}
use Rattle.ansi_str.specs.Rendition.{plain_style}
use Rattle.ansi_str.specs.Written.{start, close_if_any}
use Rattle.ansi_text_calls.specs.declared.lists.BlockEntry.{BlockEntry}
use Rattle.ansi_text_calls.specs.declared.lists.StyledBlockEntry.{StyledBlockEntry}
use Rattle.ansi_text_calls.specs.Answers.{ok, too_small, out_of_memory}
use Rattle.ansi_text_calls.specs.Styles.{IsStyleOf}

-- the end of each of consecutive texts; the first begins at n
abbrev pub ends_from : ℕ → List (List ℕ) → List ℕ
ends_from n [] = []
ends_from n (t ∷ ts) = (n + length t) ∷ ends_from (n + length t) ts

-- there is an entry for each of consecutive texts, and it is right for its beginning, its end and the text; the first begins at n
abbrev pub AreEntries : {X T : Type 0} → (X → List ℕ) → (ℕ → ℕ → X → T → Type 0) → ℕ → List X → List T → Type 0
AreEntries text IsEntry n [] [] = ⊤
AreEntries text IsEntry n [] (e ∷ es) = ⊥
AreEntries text IsEntry n (x ∷ xs) [] = ⊥
AreEntries text IsEntry n (x ∷ xs) (e ∷ es) = IsEntry n (n + length (text x)) x e × AreEntries text IsEntry (n + length (text x)) xs es

-- the entry has the end of a block and its style
abbrev pub IsBlockEntry : ℕ → ℕ → Block → BlockEntry → Type 0
IsBlockEntry begin end b e = (e.end ≡ end) × IsStyleOf b.style e.style

-- the text of a block between the start and the close of its style
abbrev pub styled_text : Block → List ℕ
styled_text b = start b.style ++ b.text ++ close_if_any b.style

-- the entry has the ends of the start, the text and the close of such a block, and its style
abbrev pub IsStyledBlockEntry : ℕ → ℕ → Block → StyledBlockEntry → Type 0
IsStyledBlockEntry begin end b e =
    (e.text_start ≡ begin + length (start b.style)) × (e.text_end ≡ begin + length (start b.style) + length b.text) × (e.end ≡ end)
    × IsStyleOf b.style e.style

-- a text without ESC that isn't empty, as a block
abbrev pub whole_block : List ℕ → Block
whole_block t = record { text = t; style = plain_style; is_borrow = true }

-- the result of a call that returns no texts
abbrev pub none : ℕ → ListAnswer
none status = record { status = status; count = 0; len = 0 }

-- a call fails, and both buffers are unchanged
abbrev pub HaveFailed : {T : Type 0} → ℕ → ListAnswer → List ℕ → List ℕ → List T → List T → Type 0
HaveFailed status answer old new old_entries new_entries = (answer ≡ none status) × (new ≡ old) × (new_entries ≡ old_entries)

-- the bytes are at the front of one buffer and the entries at the front of the other, and the rest of both is unchanged; or there is no room for one of them, and both are unchanged
abbrev pub AreWritten : {T : Type 0} → List ℕ → List T → ListAnswer → List ℕ → List ℕ → List T → List T → Type 0
AreWritten bytes entries answer old new old_entries new_entries =
    ((length bytes ≤ length old) × (length entries ≤ length old_entries)
    × (answer ≡ record { status = ok; count = length entries; len = length bytes })
    × (new ≡ bytes ++ drop (length bytes) old) × (new_entries ≡ entries ++ drop (length entries) old_entries))
    ⊎ (((length old < length bytes) ⊎ (length old_entries < length entries))
    × (answer ≡ record { status = too_small; count = length entries; len = length bytes })
    × (new ≡ old) × (new_entries ≡ old_entries))

-- the bytes of a text that an iterator returns; an error has none
abbrev pub given_bytes : {A E : Type 0} → Result (CowStr A) E → List ℕ
given_bytes (Ok text) = cow_str_bytes text
given_bytes (Err e) = []

-- texts are counted with their total length, and written one after the other if there is room for all of them; their ends are written if there is room for all of these
abbrev pub AreCopied : List (List ℕ) → ℕ × ℕ → List ℕ → List ℕ → List ℕ → List ℕ → Type 0
AreCopied texts answer old new old_ends new_ends =
    (answer.0 ≡ length texts) × (answer.1 ≡ length (flat_map (λ t. t) texts))
    × (length (flat_map (λ t. t) texts) ≤ length old → new ≡ flat_map (λ t. t) texts ++ drop (length (flat_map (λ t. t) texts)) old)
    × (length texts ≤ length old_ends → new_ends ≡ ends_from 0 texts ++ drop (length texts) old_ends)

-- a function copies these texts, whatever buffers it takes
abbrev pub Copies : (MutBor (List ℕ) → MutBor (List ℕ) → ℕ × ℕ → MutBor (List ℕ) → MutBor (List ℕ) → Type 0) → List (List ℕ) → Type 0
Copies post texts =
    (old : MutBor (List ℕ)) (old_ends : MutBor (List ℕ)) (copied : ℕ × ℕ) (new : MutBor (List ℕ)) (new_ends : MutBor (List ℕ))
    → post old old_ends copied new new_ends → AreCopied texts copied old.now new.now old_ends.now new_ends.now

-- texts fit into this many bytes, and their ends into this many ends
abbrev pub Fit : List (List ℕ) → ℕ → ℕ → Type 0
Fit texts bytes ends = (length (flat_map (λ t. t) texts) ≤ bytes) × (length texts ≤ ends)

-- they don't fit, and these are their number and their total length
abbrev pub IsCountWithoutRoom : List (List ℕ) → ℕ → ℕ → ℕ × ℕ → Type 0
IsCountWithoutRoom texts bytes ends count =
    ((bytes < length (flat_map (λ t. t) texts)) ⊎ (ends < length texts)) × (count.0 ≡ length texts) × (count.1 ≡ length (flat_map (λ t. t) texts))

-- these texts are copied so far, and both buffers keep their length
abbrev pub AreCopiedSoFar : List (List ℕ) → ℕ × ℕ → List ℕ → List ℕ → List ℕ → List ℕ → Type 0
AreCopiedSoFar texts answer old new old_ends new_ends =
    AreCopied texts answer old new old_ends new_ends × (length new ≡ length old) × (length new_ends ≡ length old_ends)

-- a call writes all texts, or runs out of memory if it allocates
abbrev pub GivesAll : {T : Type 0} → Bool → List ℕ → List T → ListAnswer → List ℕ → List ℕ → List T → List T → Type 0
GivesAll takes_memory bytes entries answer old new old_entries new_entries =
    AreWritten bytes entries answer old new old_entries new_entries
    ⊎ (IsTrue takes_memory × HaveFailed out_of_memory answer old new old_entries new_entries)

-- the same with entries of which this is true
abbrev pub GivesAllWith : {T : Type 0} → Bool → List ℕ → (List T → Type 0) → ListAnswer → List ℕ → List ℕ → List T → List T → Type 0
GivesAllWith {T} takes_memory bytes AreRight answer old new old_entries new_entries =
    ((entries : List T) × AreRight entries × AreWritten bytes entries answer old new old_entries new_entries)
    ⊎ (IsTrue takes_memory × HaveFailed out_of_memory answer old new old_entries new_entries)
