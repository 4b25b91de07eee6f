-- What each call on links does. A text that isn't UTF-8 makes it fail with the status `not_utf8`, and what it writes to is unchanged.
use Rattle.std.specs.Prelude.{ℕ, ◌+◌, not, ◌&&◌, ◌==◌, List, [], ◌∷◌, length, flat_map, Option, None, Some, if◌then◌else◌}
use Rattle.ansi_items.specs.Plain.{plain}
use Rattle.ansi_restyle.specs.Links.{LinkedRange, links, has_link, without_links, is_clean_address, with_link}
use Rattle.ansi_restyle.specs.Ranges.{are_in_turn}
use Rattle.ansi_text_calls.specs.declared.answers.Answer.{Answer}
use Rattle.ansi_text_calls.specs.declared.lists.ListAnswer.{ListAnswer}
use Rattle.ansi_text_calls.specs.declared.links.LinkEntry.{LinkEntry}
use Rattle.ansi_text_calls.specs.Answers.{no, refused, not_utf8, OnUtf8, HasFailed, Gives}
use Rattle.ansi_text_calls.specs.Lists.{AreWritten, HaveFailed}

-- the addresses of links, one after the other
abbrev pub addresses : List LinkedRange → List ℕ
addresses ls = flat_map (λ (l : LinkedRange). l.address) ls

-- an entry for each link: where its range begins and ends, and where its address ends, if the first address begins at n
abbrev pub link_entries_from : ℕ → List LinkedRange → List LinkEntry
link_entries_from n [] = []
link_entries_from n (l ∷ ls) = record { start = l.range.0; end = l.range.1; address_end = n + length l.address } ∷ link_entries_from (n + length l.address) ls

-- `links` writes the addresses of the links and these entries; it doesn't allocate
abbrev pub WritesLinks : List ℕ → ListAnswer → List ℕ → List ℕ → List LinkEntry → List LinkEntry → Type 0
WritesLinks t answer old new old_entries new_entries =
    OnUtf8 (t ∷ []) (AreWritten (addresses (links t)) (link_entries_from 0 (links t)) answer old new old_entries new_entries)
    (HaveFailed not_utf8 answer old new old_entries new_entries)

-- the text t with its plain bytes from one position up to another linked to an address, if that is a range of it and the address is clean
abbrev pub linked_or_none : List ℕ → ℕ → ℕ → List ℕ → Option (List ℕ)
linked_or_none t start end address =
    if is_clean_address address && are_in_turn (plain t) 0 ((start, end) ∷ []) then Some (with_link t (start, end) address) else None

-- a call writes that text, and allocates only if there is such a text and the range isn't empty; it is refused if there is none
unfoldable pub GivesLinked : List ℕ → ℕ → ℕ → List ℕ → Answer → List ℕ → List ℕ → Type 0
GivesLinked t start end address answer old new =
    Gives refused ((is_clean_address address && are_in_turn (plain t) 0 ((start, end) ∷ [])) && not (start == end)) (linked_or_none t start end address) answer old new

-- `link` does so
abbrev pub WritesLinked : List ℕ → ℕ → ℕ → List ℕ → Answer → List ℕ → List ℕ → Type 0
WritesLinked t start end address answer old new =
    OnUtf8 (t ∷ address ∷ []) (GivesLinked t start end address answer old new) (HasFailed not_utf8 answer old new)

-- a call writes the text t without its links, and allocates only if it has a link sequence
unfoldable pub GivesUnlinked : List ℕ → Answer → List ℕ → List ℕ → Type 0
GivesUnlinked t answer old new = Gives no (has_link t) (Some (without_links t)) answer old new

-- `unlink` does so
abbrev pub Unlinks : List ℕ → Answer → List ℕ → List ℕ → Type 0
Unlinks t answer old new = OnUtf8 (t ∷ []) (GivesUnlinked t answer old new) (HasFailed not_utf8 answer old new)
