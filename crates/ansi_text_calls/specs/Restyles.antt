-- What each call on matches and on ranges does. A text that isn't UTF-8 makes it fail with the status `not_utf8`, and what it writes to is unchanged.
use Rattle.std.specs.Prelude.{◌≡◌, ◌⊎◌, ℕ, ◌+◌, ◌<◌, not, ◌&&◌, ◌==◌, IsTrue, IsFalse, List, [], ◌∷◌, length, map, take, Option, None, Some, if◌then◌else◌}
use Rattle.std.specs.Option.{option_map_or}
use Rattle.ansi_items.specs.Plain.{plain}
use Rattle.ansi_search.specs.Matches.{first_match_from}
use Rattle.ansi_search.specs.Positions.{is_char_boundary}
use Rattle.ansi_style.specs.Written.{written}
use Rattle.ansi_restyle.specs.Matches.{matches}
use Rattle.ansi_restyle.specs.Ranges.{are_in_turn, are_empty}
use Rattle.ansi_restyle.specs.Removed.{removed}
use Rattle.ansi_restyle.specs.Replaced.{replaced}
use Rattle.ansi_restyle.specs.ReplacedAll.{replaced_all}
use Rattle.ansi_restyle.specs.Restyled.{is_change, restyled}
use Rattle.ansi_text_calls.specs.declared.answers.Answer.{Answer}
use Rattle.ansi_text_calls.specs.declared.lists.ListAnswer.{ListAnswer}
use Rattle.ansi_text_calls.specs.declared.restyles.RangeEntry.{RangeEntry}
use Rattle.ansi_text_calls.specs.Answers.{no, refused, not_utf8, out_of_memory, done, failed, OnUtf8, HasFailed, Gives}
use Rattle.ansi_text_calls.specs.Lists.{AreWritten, HaveFailed}

-- `find_from` returns the position of the first match of p in the plain text that doesn't begin before a position
abbrev pub FindsFrom : List ℕ → ℕ → List ℕ → Answer → Type 0
FindsFrom t position p answer = OnUtf8 (t ∷ p ∷ []) (answer ≡ option_map_or done (first_match_from (plain t) p position) (failed no)) (answer ≡ failed not_utf8)

-- where a range begins and ends
abbrev pub range_entry : ℕ × ℕ → RangeEntry
range_entry range = record { start = range.0; end = range.1 }

-- the ranges that a caller gives
abbrev pub ranges_of : List RangeEntry → List (ℕ × ℕ)
ranges_of entries = map (λ (e : RangeEntry). (e.start, e.end)) entries

-- where each match of p in the plain text begins and ends
abbrev pub match_entries : List ℕ → List ℕ → List RangeEntry
match_entries t p = map range_entry (matches (plain t) p)

-- `matches` writes these, and no texts; it doesn't allocate
abbrev pub WritesMatches : List ℕ → List ℕ → ListAnswer → List RangeEntry → List RangeEntry → Type 0
WritesMatches t p answer old new = OnUtf8 (t ∷ p ∷ []) (AreWritten [] (match_entries t p) answer [] [] old new) (HaveFailed not_utf8 answer [] [] old new)

-- the text t with the codes applied to each character in the ranges, if they are codes and the ranges are in turn
abbrev pub restyled_or_none : List ℕ → List ℕ → List (ℕ × ℕ) → Option (List ℕ)
restyled_or_none t codes rs = if is_change codes && are_in_turn (plain t) 0 rs then Some (restyled t (written codes) rs) else None

-- a call writes that text, and allocates only if there is a range; it is refused if there is no such text
unfoldable pub GivesRestyled : List ℕ → List (ℕ × ℕ) → List ℕ → Answer → List ℕ → List ℕ → Type 0
GivesRestyled t rs codes answer old new = Gives refused (not (length rs == 0)) (restyled_or_none t codes rs) answer old new

-- `restyle` does so
abbrev pub Restyles : List ℕ → List RangeEntry → List ℕ → Answer → List ℕ → List ℕ → Type 0
Restyles t entries codes answer old new = OnUtf8 (t ∷ codes ∷ []) (GivesRestyled t (ranges_of entries) codes answer old new) (HasFailed not_utf8 answer old new)

-- a call returns the index of the first of the ranges that isn't in turn in x, or that all are
abbrev pub TellsRefused : List ℕ → List (ℕ × ℕ) → Answer → Type 0
TellsRefused x rs answer =
    ((answer ≡ failed no) × IsTrue (are_in_turn x 0 rs))
    ⊎ ((n : ℕ) × (answer ≡ done n) × (n < length rs) × IsTrue (are_in_turn x 0 (take n rs)) × IsFalse (are_in_turn x 0 (take (n + 1) rs)))

-- the same, or the call runs out of memory; it allocates only if there is a range
abbrev pub GivesRefused : List ℕ → List (ℕ × ℕ) → Answer → Type 0
GivesRefused t rs answer = TellsRefused (plain t) rs answer ⊎ (IsTrue (not (length rs == 0)) × (answer ≡ failed out_of_memory))

-- `refused_range` does so
abbrev pub FindsRefused : List ℕ → List RangeEntry → Answer → Type 0
FindsRefused t entries answer = OnUtf8 (t ∷ []) (GivesRefused t (ranges_of entries) answer) (answer ≡ failed not_utf8)

-- the text t with the codes applied to each match of p, if they are codes
abbrev pub marked_or_none : List ℕ → List ℕ → List ℕ → Option (List ℕ)
marked_or_none t p codes = if is_change codes then Some (restyled t (written codes) (matches (plain t) p)) else None

-- a call writes that text, and allocates only if they are codes and a match isn't empty; it is refused if they aren't codes
unfoldable pub GivesMarked : List ℕ → List ℕ → List ℕ → Answer → List ℕ → List ℕ → Type 0
GivesMarked t p codes answer old new =
    Gives refused (is_change codes && not (are_empty (matches (plain t) p))) (marked_or_none t p codes) answer old new

-- `mark` does so
abbrev pub Marks : List ℕ → List ℕ → List ℕ → Answer → List ℕ → List ℕ → Type 0
Marks t p codes answer old new = OnUtf8 (t ∷ p ∷ codes ∷ []) (GivesMarked t p codes answer old new) (HasFailed not_utf8 answer old new)

-- the text t without its plain bytes from one position up to another, if that is a range of it
abbrev pub removed_or_none : List ℕ → ℕ → ℕ → Option (List ℕ)
removed_or_none t start end = if are_in_turn (plain t) 0 ((start, end) ∷ []) then Some (removed t start end) else None

-- a call writes that text, and allocates only if it is such a range and isn't empty; it is refused if it isn't
unfoldable pub GivesRemoved : List ℕ → ℕ → ℕ → Answer → List ℕ → List ℕ → Type 0
GivesRemoved t start end answer old new =
    Gives refused (are_in_turn (plain t) 0 ((start, end) ∷ []) && not (start == end)) (removed_or_none t start end) answer old new

-- `remove` does so
abbrev pub Removes : List ℕ → ℕ → ℕ → Answer → List ℕ → List ℕ → Type 0
Removes t start end answer old new = OnUtf8 (t ∷ []) (GivesRemoved t start end answer old new) (HasFailed not_utf8 answer old new)

-- the text t with w in place of its plain bytes from one position up to another, if that is a range of it
abbrev pub replaced_or_none : List ℕ → ℕ → ℕ → List ℕ → Option (List ℕ)
replaced_or_none t start end w = if are_in_turn (plain t) 0 ((start, end) ∷ []) then Some (replaced t start end w) else None

-- a call writes that text, and allocates only if it is such a range and either it or w isn't empty; it is refused if it isn't such a range
unfoldable pub GivesReplaced : List ℕ → ℕ → ℕ → List ℕ → Answer → List ℕ → List ℕ → Type 0
GivesReplaced t start end w answer old new =
    Gives refused (are_in_turn (plain t) 0 ((start, end) ∷ []) && not (start == end && length w == 0)) (replaced_or_none t start end w) answer old new

-- `replace` does so
abbrev pub Replaces : List ℕ → ℕ → ℕ → List ℕ → Answer → List ℕ → List ℕ → Type 0
Replaces t start end w answer old new = OnUtf8 (t ∷ w ∷ []) (GivesReplaced t start end w answer old new) (HasFailed not_utf8 answer old new)

-- the text t with w put in at a position, if that is one of its character boundaries
abbrev pub inserted_or_none : List ℕ → ℕ → List ℕ → Option (List ℕ)
inserted_or_none t position w = if is_char_boundary (plain t) position then Some (replaced t position position w) else None

-- a call writes that text, and allocates only if it is such a position and w isn't empty; it is refused if it isn't such a position
unfoldable pub GivesInserted : List ℕ → ℕ → List ℕ → Answer → List ℕ → List ℕ → Type 0
GivesInserted t position w answer old new =
    Gives refused (is_char_boundary (plain t) position && not (length w == 0)) (inserted_or_none t position w) answer old new

-- `insert` does so
abbrev pub Inserts : List ℕ → ℕ → List ℕ → Answer → List ℕ → List ℕ → Type 0
Inserts t position w answer old new = OnUtf8 (t ∷ w ∷ []) (GivesInserted t position w answer old new) (HasFailed not_utf8 answer old new)

-- a call writes the text t with w in place of each match of p, and allocates only if p matches
unfoldable pub GivesReplacedAll : List ℕ → List ℕ → List ℕ → Answer → List ℕ → List ℕ → Type 0
GivesReplacedAll t p w answer old new = Gives no (not (length (matches (plain t) p) == 0)) (Some (replaced_all t p w)) answer old new

-- `replace_all` does so
abbrev pub ReplacesAll : List ℕ → List ℕ → List ℕ → Answer → List ℕ → List ℕ → Type 0
ReplacesAll t p w answer old new = OnUtf8 (t ∷ p ∷ w ∷ []) (GivesReplacedAll t p w answer old new) (HasFailed not_utf8 answer old new)
