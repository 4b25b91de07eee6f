-- What each call does (own). If all its texts are UTF-8, it does what its line says; otherwise it fails with the status `not_utf8`, and what it writes to is unchanged.
use Rattle.std.specs.Prelude.{◌≡◌, ℕ, Bool, true, List, [], ◌∷◌, map, flat_map, Some, option_map, slice_get, nat_eq}
use Rattle.std.specs.List.{starts_with, ends_with}
use Rattle.ansi_style.specs.declared.state.rendition.Rendition.{Rendition}
use Rattle.ansi_str.specs.Plain.{plain, has_escape, is_whole}
use Rattle.ansi_str.specs.Positions.{is_char_boundary}
use Rattle.ansi_str.specs.Changes.{Change, CutRange, LeftOf, RightOf, PartOf, WithoutPrefix, WithoutSuffix, Trimmed}
use Rattle.ansi_str.specs.Written.{start, close_if_any}
use Rattle.ansi_str.specs.Parts.{all_parts}
use Rattle.ansi_str.specs.Blocks.{Block, blocks}
use Rattle.ansi_str.specs.Splits.{split_parts}
use Rattle.ansi_split.specs.declared.walks.PartWalk.{PartWalk}
use Rattle.ansi_split.specs.Walks.{parts_of_walk, IsPartWalk}
use Rattle.ansi_text_calls.specs.declared.answers.Answer.{Answer}
use Rattle.ansi_text_calls.specs.declared.blocks.StyleAnswer.{StyleAnswer}
use Rattle.ansi_text_calls.specs.declared.edits.EditStep.{EditStep}
use Rattle.ansi_text_calls.specs.declared.lists.ListAnswer.{ListAnswer}
use Rattle.ansi_text_calls.specs.declared.lists.BlockEntry.{BlockEntry}
use Rattle.ansi_text_calls.specs.declared.lists.StyledBlockEntry.{StyledBlockEntry}
use Rattle.ansi_text_calls.specs.declared.walks.BlockWalk.{BlockWalk}
use Rattle.ansi_text_calls.specs.Answers.{no, refused, not_utf8, done, failed, told, OnUtf8, HasFailed, Gives, GivesEdited, TellsBoundary, TellsPlace}
use Rattle.ansi_text_calls.specs.Styles.{HasNoStyle, TellsStyle}
use Rattle.ansi_text_calls.specs.Steps.{change_of_step, patterns_of}
use Rattle.ansi_text_calls.specs.Lists.{ends_from, AreEntries, IsBlockEntry, styled_text, IsStyledBlockEntry, HaveFailed, GivesAll, GivesAllWith}
use Rattle.ansi_text_calls.specs.Walks.{IsOver}

-- `strip` writes the plain text
abbrev pub Strips : List ℕ → Answer → List ℕ → List ℕ → Type 0
Strips t answer old new = OnUtf8 (t ∷ []) (Gives no (has_escape t) (Some (plain t)) answer old new) (HasFailed not_utf8 answer old new)

-- a call on these texts writes the text t after one change, or fails with the status `absent` if that is refused
abbrev pub Changes : List (List ℕ) → ℕ → Change → List ℕ → Answer → List ℕ → List ℕ → Type 0
Changes texts absent change t answer old new = OnUtf8 texts (GivesEdited absent (change ∷ []) t answer old new) (HasFailed not_utf8 answer old new)

-- `cut` writes the text from one position up to another
abbrev pub Cuts : List ℕ → ℕ → ℕ → Answer → List ℕ → List ℕ → Type 0
Cuts t from to answer old new = Changes (t ∷ []) refused (CutRange from (Some to)) t answer old new

-- `left` writes the text before a position
abbrev pub TakesLeft : List ℕ → ℕ → Answer → List ℕ → List ℕ → Type 0
TakesLeft t mid answer old new = Changes (t ∷ []) refused (LeftOf mid) t answer old new

-- `right` writes the text from a position on
abbrev pub TakesRight : List ℕ → ℕ → Answer → List ℕ → List ℕ → Type 0
TakesRight t mid answer old new = Changes (t ∷ []) refused (RightOf mid) t answer old new

-- `trim` writes the text without the white space at its ends
abbrev pub Trims : List ℕ → Answer → List ℕ → List ℕ → Type 0
Trims t answer old new = Changes (t ∷ []) refused Trimmed t answer old new

-- `strip_prefix` writes the text without the prefix p
abbrev pub StripsPrefix : List ℕ → List ℕ → Answer → List ℕ → List ℕ → Type 0
StripsPrefix t p answer old new = Changes (p ∷ t ∷ []) no (WithoutPrefix p) t answer old new

-- `strip_suffix` writes the text without the suffix p
abbrev pub StripsSuffix : List ℕ → List ℕ → Answer → List ℕ → List ℕ → Type 0
StripsSuffix t p answer old new = Changes (p ∷ t ∷ []) no (WithoutSuffix p) t answer old new

-- `part` writes the part at an index, of the parts between the matches of p
abbrev pub TakesPart : List ℕ → List ℕ → ℕ → Answer → List ℕ → List ℕ → Type 0
TakesPart t p index answer old new = Changes (p ∷ t ∷ []) no (PartOf p index) t answer old new

-- `edit` writes the text after all steps, each applied to the result of the one before
abbrev pub Edits : List ℕ → List EditStep → Answer → List ℕ → List ℕ → Type 0
Edits t steps answer old new =
    OnUtf8 (t ∷ patterns_of steps) (GivesEdited refused (map change_of_step steps) t answer old new) (HasFailed not_utf8 answer old new)

-- `find` returns the position of the first match of p in the plain text
abbrev pub Finds : List ℕ → List ℕ → Answer → Type 0
Finds t p answer = OnUtf8 (t ∷ p ∷ []) (TellsPlace p (plain t) answer) (answer ≡ failed not_utf8)

-- a call on these texts returns whether something holds
abbrev pub Tests : List (List ℕ) → Bool → Answer → Type 0
Tests texts is_so answer = OnUtf8 texts (answer ≡ told is_so) (answer ≡ failed not_utf8)

-- `starts_with`: the plain text begins with p
abbrev pub TestsFront : List ℕ → List ℕ → Answer → Type 0
TestsFront t p answer = Tests (t ∷ p ∷ []) (starts_with nat_eq (plain t) p) answer

-- `ends_with`: the plain text ends with p
abbrev pub TestsEnd : List ℕ → List ℕ → Answer → Type 0
TestsEnd t p answer = Tests (t ∷ p ∷ []) (ends_with nat_eq (plain t) p) answer

-- `is_char_boundary`: a character of the plain text begins at the index, or the plain text ends there
abbrev pub TestsBoundary : List ℕ → ℕ → Answer → Type 0
TestsBoundary t index answer = Tests (t ∷ []) (is_char_boundary (plain t) index) answer

-- `is_whole`: the text is whole
abbrev pub TestsWhole : List ℕ → Answer → Type 0
TestsWhole t answer = Tests (t ∷ []) (is_whole t) answer

-- `has_any`: the text has an ESC
abbrev pub TestsEscape : List ℕ → Answer → Type 0
TestsEscape t answer = Tests (t ∷ []) (has_escape t) answer

-- `floor_char_boundary` returns the last character boundary of the plain text that isn't past the index
abbrev pub FindsBoundary : List ℕ → ℕ → Answer → Type 0
FindsBoundary t index answer = OnUtf8 (t ∷ []) (TellsBoundary (plain t) index answer) (answer ≡ failed not_utf8)

-- `block` writes the text of the block at an index
abbrev pub TakesBlock : List ℕ → ℕ → Answer → List ℕ → List ℕ → Type 0
TakesBlock t index answer old new =
    OnUtf8 (t ∷ []) (Gives no (has_escape t) (option_map (λ (b : Block). b.text) (slice_get (blocks t) index)) answer old new) (HasFailed not_utf8 answer old new)

-- `block_start` writes the start of its style
abbrev pub TakesBlockStart : List ℕ → ℕ → Answer → List ℕ → List ℕ → Type 0
TakesBlockStart t index answer old new =
    OnUtf8 (t ∷ []) (Gives no true (option_map (λ (b : Block). start b.style) (slice_get (blocks t) index)) answer old new) (HasFailed not_utf8 answer old new)

-- `block_end` writes the close of its style
abbrev pub TakesBlockEnd : List ℕ → ℕ → Answer → List ℕ → List ℕ → Type 0
TakesBlockEnd t index answer old new =
    OnUtf8 (t ∷ []) (Gives no true (option_map (λ (b : Block). close_if_any b.style) (slice_get (blocks t) index)) answer old new) (HasFailed not_utf8 answer old new)

-- `block_style` returns its style
abbrev pub TakesBlockStyle : List ℕ → ℕ → StyleAnswer → Type 0
TakesBlockStyle t index answer =
    OnUtf8 (t ∷ []) (TellsStyle (has_escape t) (option_map (λ (b : Block). b.style) (slice_get (blocks t) index)) answer) (HasNoStyle not_utf8 answer)

-- `split` writes all parts between the matches of p, and where each ends
abbrev pub Splits : List ℕ → List ℕ → ListAnswer → List ℕ → List ℕ → List ℕ → List ℕ → Type 0
Splits t p answer old new old_ends new_ends =
    OnUtf8 (t ∷ p ∷ []) (GivesAll (has_escape t) (flat_map (λ u. u) (all_parts t p)) (ends_from 0 (all_parts t p)) answer old new old_ends new_ends)
    (HaveFailed not_utf8 answer old new old_ends new_ends)

-- a call writes all blocks, each as a text, with an entry for each
abbrev pub ListsAs : {T : Type 0} → (Block → List ℕ) → (ℕ → ℕ → Block → T → Type 0) → List ℕ → ListAnswer → List ℕ → List ℕ → List T → List T → Type 0
ListsAs text IsEntry t answer old new old_entries new_entries =
    OnUtf8 (t ∷ []) (GivesAllWith (has_escape t) (flat_map text (blocks t)) (AreEntries text IsEntry 0 (blocks t)) answer old new old_entries new_entries)
    (HaveFailed not_utf8 answer old new old_entries new_entries)

-- `blocks` writes all blocks, and for each where it ends and its style
abbrev pub ListsBlocks : List ℕ → ListAnswer → List ℕ → List ℕ → List BlockEntry → List BlockEntry → Type 0
ListsBlocks t answer old new old_entries new_entries = ListsAs (λ b. b.text) IsBlockEntry t answer old new old_entries new_entries

-- `styled_blocks` writes all blocks, each between the start and the close of its style; and for each where these are and its style
abbrev pub ListsStyledBlocks : List ℕ → ListAnswer → List ℕ → List ℕ → List StyledBlockEntry → List StyledBlockEntry → Type 0
ListsStyledBlocks t answer old new old_entries new_entries = ListsAs styled_text IsStyledBlockEntry t answer old new old_entries new_entries

-- `blocks_begin` sets a walk to the beginning of the text
abbrev pub BeginsBlocks : List ℕ → Answer → BlockWalk → BlockWalk → Type 0
BeginsBlocks t answer old new = OnUtf8 (t ∷ []) ((answer ≡ done 0) × IsOver t new) ((answer ≡ failed not_utf8) × (new ≡ old))

-- `parts_begin` sets a walk to the first of the parts between the matches of p
abbrev pub BeginsParts : List ℕ → List ℕ → Answer → PartWalk → PartWalk → Type 0
BeginsParts t p answer old new =
    OnUtf8 (t ∷ p ∷ []) ((answer ≡ done 0) × IsPartWalk new × (parts_of_walk new ≡ split_parts t p)) ((answer ≡ failed not_utf8) × (new ≡ old))

-- `style_start` writes the start of a style
abbrev pub WritesStart : Rendition → Answer → List ℕ → List ℕ → Type 0
WritesStart s answer old new = Gives no true (Some (start s)) answer old new

-- `style_end` writes its close
abbrev pub WritesClose : Rendition → Answer → List ℕ → List ℕ → Type 0
WritesClose s answer old new = Gives no true (Some (close_if_any s)) answer old new
