-- What each call on columns does. A text that isn't UTF-8 makes it fail with the status `not_utf8`, and what it writes to is unchanged.
use Rattle.std.specs.Prelude.{Bool, ◌≡◌, ◌⊎◌, ℕ, true, not, ◌&&◌, ◌||◌, ◌==◌, List, [], ◌∷◌, length, map, flat_map, bytes_eq, Option, None, Some, if◌then◌else◌}
use Rattle.std.specs.Option.{option_map_or}
use Rattle.std.specs.Str.{IsCharBoundary}
use Rattle.ansi_cells.specs.declared.shown.Alignment.{Alignment}
use Rattle.ansi_cells.specs.declared.shown.Alignment.TheVariants.{Left, Right, Center}
use Rattle.ansi_cells.specs.declared.sides.Side.{Side}
use Rattle.ansi_cells.specs.declared.sides.Side.TheVariants.{End, Start, Middle}
use Rattle.ansi_cells.specs.Addresses.{address_at}
use Rattle.ansi_clusters.specs.Columns.{columns, column_of, ShowsUpTo}
use Rattle.ansi_items.specs.Plain.{plain, has_escape}
use Rattle.ansi_cells.specs.Fitted.{fitted}
use Rattle.ansi_clusters.specs.Lines.{shown_lines}
use Rattle.ansi_clusters.specs.LineWalks.{lines_of_walk, IsLineWalk}
use Rattle.ansi_clusters.specs.declared.line_walks.LineWalk.{LineWalk}
use Rattle.ansi_cells.specs.Shown.{truncated, truncated_ending, padded, missing, closing, closed_cell}
use Rattle.ansi_cells.specs.Sides.{is_cut_at_end, truncated_at}
use Rattle.ansi_cells.specs.Slices.{is_sliced_stretch, sliced}
use Rattle.ansi_cells.specs.Tabs.{has_tab, expanded}
use Rattle.ansi_cells.specs.Indents.{wrapped_with}
use Rattle.ansi_cells.specs.Wrapped.{CarriedPart, wrapped}
use Rattle.ansi_safe.specs.Cells.{cell, is_cell, paragraph}
use Rattle.ansi_text_calls.specs.declared.answers.Answer.{Answer}
use Rattle.ansi_calls.specs.declared.lines.LineEntry.{LineEntry}
use Rattle.ansi_text_calls.specs.declared.lists.ListAnswer.{ListAnswer}
use Rattle.ansi_text_calls.specs.Answers.{no, refused, not_utf8, done, failed, OnUtf8, HasFailed, IsFound, Gives}
use Rattle.ansi_text_calls.specs.Lists.{ends_from, AreWritten, HaveFailed, GivesAll}

-- the alignments, by the numbers that the header gives them
abbrev pub alignment_of : ℕ → Option Alignment
alignment_of n = if n == 0 then Some Left else if n == 1 then Some Center else if n == 2 then Some Right else None

-- `width` returns the columns of what a terminal shows
abbrev pub TellsWidth : List ℕ → Answer → Type 0
TellsWidth t answer = OnUtf8 (t ∷ []) (answer ≡ done (columns (plain (cell t)))) (answer ≡ failed not_utf8)

-- `fitting` returns the place of the plain text up to which what is shown fits into `width` columns, which is a character boundary of it
abbrev pub TellsFitting : List ℕ → ℕ → Answer → Type 0
TellsFitting t width answer =
    OnUtf8 (t ∷ []) ((place : ℕ) × (answer ≡ done place) × ShowsUpTo t width place × IsCharBoundary (plain t) place) (answer ≡ failed not_utf8)

-- `column_of` returns the columns of what is shown before a position of the plain text; it is refused if the position isn't good
abbrev pub TellsColumn : List ℕ → ℕ → Answer → Type 0
TellsColumn t position answer = OnUtf8 (t ∷ []) (answer ≡ option_map_or done (column_of t position) (failed refused)) (answer ≡ failed not_utf8)

-- a cell t truncated to `width` columns is a front of it, as nothing is written after that
abbrev pub is_front : List ℕ → ℕ → List ℕ → Bool
is_front t width tail = is_cell t && length (truncated_ending (cell t) width (closed_cell tail)) == 0

-- a call writes the text t truncated to `width` columns, and allocates only if its cell isn't t, or something is written after the part that stays
unfoldable pub GivesTruncated : List ℕ → ℕ → List ℕ → Answer → List ℕ → List ℕ → Type 0
GivesTruncated t width tail answer old new = Gives no (not (is_front t width tail)) (Some (truncated (cell t) width (closed_cell tail))) answer old new

-- `truncate` does so
abbrev pub Truncates : List ℕ → ℕ → List ℕ → Answer → List ℕ → List ℕ → Type 0
Truncates t width tail answer old new = OnUtf8 (t ∷ tail ∷ []) (GivesTruncated t width tail answer old new) (HasFailed not_utf8 answer old new)

-- a call writes the text t padded to `width` columns, and allocates only if its cell isn't t, a blank is needed or something is open; it is refused if there is no such alignment
unfoldable pub GivesPadded : List ℕ → ℕ → Option Alignment → Answer → List ℕ → List ℕ → Type 0
GivesPadded t width None answer old new = HasFailed refused answer old new
GivesPadded t width (Some alignment) answer old new =
    Gives no (not (is_cell t && (missing (cell t) width == 0 && length (closing (cell t)) == 0))) (Some (padded (cell t) width alignment)) answer old new

-- `pad` does so, with the alignment of this number
abbrev pub Pads : List ℕ → ℕ → ℕ → Answer → List ℕ → List ℕ → Type 0
Pads t width n answer old new = OnUtf8 (t ∷ []) (GivesPadded t width (alignment_of n) answer old new) (HasFailed not_utf8 answer old new)

-- a call writes the text t truncated or padded to `width` columns, and allocates only as if it truncated t and padded what that gives; it is refused if there is no such alignment
unfoldable pub GivesFitted : List ℕ → ℕ → Option Alignment → List ℕ → Answer → List ℕ → List ℕ → Type 0
GivesFitted t width None tail answer old new = HasFailed refused answer old new
GivesFitted t width (Some alignment) tail answer old new =
    let cut = truncated (cell t) width (closed_cell tail) in
    Gives no (not (is_front t width tail && (missing cut width == 0 && length (closing cut) == 0))) (Some (fitted (cell t) width alignment (closed_cell tail))) answer old new

-- `fit` does so, with the alignment of this number
abbrev pub Fits : List ℕ → ℕ → ℕ → List ℕ → Answer → List ℕ → List ℕ → Type 0
Fits t width n tail answer old new = OnUtf8 (t ∷ tail ∷ []) (GivesFitted t width (alignment_of n) tail answer old new) (HasFailed not_utf8 answer old new)

-- the sides, by the numbers that the header gives them
abbrev pub side_of : ℕ → Option Side
side_of n = if n == 0 then Some End else if n == 1 then Some Start else if n == 2 then Some Middle else None

-- a call writes the text t truncated to `width` columns at a side, and allocates only as if it truncated t, or if t is cut before its end; it is refused if there is no such side
unfoldable pub GivesTruncatedAt : List ℕ → ℕ → List ℕ → Option Side → Answer → List ℕ → List ℕ → Type 0
GivesTruncatedAt t width tail None answer old new = HasFailed refused answer old new
GivesTruncatedAt t width tail (Some side) answer old new =
    Gives no (not (is_front t width tail && is_cut_at_end side (cell t) width)) (Some (truncated_at side (cell t) width (closed_cell tail))) answer old new

-- `truncate_with` does so, at the side of this number
abbrev pub TruncatesAt : List ℕ → ℕ → List ℕ → ℕ → Answer → List ℕ → List ℕ → Type 0
TruncatesAt t width tail n answer old new =
    OnUtf8 (t ∷ tail ∷ []) (GivesTruncatedAt t width tail (side_of n) answer old new) (HasFailed not_utf8 answer old new)

-- a call writes the columns of the text t from `start` up to `end`, and allocates only if its cell isn't t, or they aren't a stretch of it
unfoldable pub GivesSliced : List ℕ → ℕ → ℕ → Answer → List ℕ → List ℕ → Type 0
GivesSliced t start end answer old new =
    Gives no (not (is_cell t && is_sliced_stretch t start (Some end))) (Some (sliced (cell t) start (Some end))) answer old new

-- `slice` does so
abbrev pub Slices : List ℕ → ℕ → ℕ → Answer → List ℕ → List ℕ → Type 0
Slices t start end answer old new = OnUtf8 (t ∷ []) (GivesSliced t start end answer old new) (HasFailed not_utf8 answer old new)

-- a call writes the text t with its TABs expanded, and allocates only if the plain text has a TAB
unfoldable pub GivesExpanded : List ℕ → ℕ → Answer → List ℕ → List ℕ → Type 0
GivesExpanded t stop answer old new = Gives no (has_tab t) (Some (expanded stop t)) answer old new

-- `expand_tabs` does so
abbrev pub ExpandsTabs : List ℕ → ℕ → Answer → List ℕ → List ℕ → Type 0
ExpandsTabs t stop answer old new = OnUtf8 (t ∷ []) (GivesExpanded t stop answer old new) (HasFailed not_utf8 answer old new)

-- `link_at` writes the address of the link at a position, and fails with the status `no` if there is none; it doesn't allocate
abbrev pub WritesLink : List ℕ → ℕ → Answer → List ℕ → List ℕ → Type 0
WritesLink t index answer old new = OnUtf8 (t ∷ []) (IsFound no (address_at t index) answer old new) (HasFailed not_utf8 answer old new)

-- the lines of the text t wrapped at a width, ready for display
abbrev pub wrapped_lines : List ℕ → ℕ → List (List ℕ)
wrapped_lines t width = map (λ (l : CarriedPart). l.bytes) (wrapped t width)

-- a call writes these lines and where each ends, and allocates only if t has an ESC, or its paragraph isn't t
unfoldable pub GivesWrapped : List ℕ → ℕ → ListAnswer → List ℕ → List ℕ → List ℕ → List ℕ → Type 0
GivesWrapped t width answer old new old_ends new_ends =
    GivesAll (has_escape t || not (bytes_eq (paragraph t) t)) (flat_map (λ l. l) (wrapped_lines t width)) (ends_from 0 (wrapped_lines t width)) answer old new old_ends new_ends

-- `wrap` does so
abbrev pub Wraps : List ℕ → ℕ → ListAnswer → List ℕ → List ℕ → List ℕ → List ℕ → Type 0
Wraps t width answer old new old_ends new_ends =
    OnUtf8 (t ∷ []) (GivesWrapped t width answer old new old_ends new_ends) (HaveFailed not_utf8 answer old new old_ends new_ends)

-- the lines of the text t wrapped at a width with indents, ready for display
abbrev pub indented_lines : List ℕ → ℕ → List ℕ → List ℕ → List (List ℕ)
indented_lines t width first later = map (λ (l : CarriedPart). l.bytes) (wrapped_with t width first later)

-- a call writes these lines and where each ends, and may allocate for any text
unfoldable pub GivesIndented : List ℕ → ℕ → List ℕ → List ℕ → ListAnswer → List ℕ → List ℕ → List ℕ → List ℕ → Type 0
GivesIndented t width first later answer old new old_ends new_ends =
    GivesAll true (flat_map (λ l. l) (indented_lines t width first later)) (ends_from 0 (indented_lines t width first later)) answer old new old_ends new_ends

-- `wrap_with` does so
abbrev pub WrapsWith : List ℕ → ℕ → List ℕ → List ℕ → ListAnswer → List ℕ → List ℕ → List ℕ → List ℕ → Type 0
WrapsWith t width first later answer old new old_ends new_ends =
    OnUtf8 (t ∷ first ∷ later ∷ []) (GivesIndented t width first later answer old new old_ends new_ends) (HaveFailed not_utf8 answer old new old_ends new_ends)

-- where a line begins and ends
abbrev pub line_entry : ℕ × ℕ → LineEntry
line_entry line = record { start = line.0; end = line.1 }

-- the same of each line of what is shown of the text t, wrapped at a width, in bytes of the plain text
abbrev pub line_entries : List ℕ → ℕ → List LineEntry
line_entries t width = map line_entry (shown_lines width (plain t))

-- `lines` writes these, and no texts; it doesn't allocate
abbrev pub WritesLines : List ℕ → ℕ → ListAnswer → List LineEntry → List LineEntry → Type 0
WritesLines t width answer old new = OnUtf8 (t ∷ []) (AreWritten [] (line_entries t width) answer [] [] old new) (HaveFailed not_utf8 answer [] [] old new)

-- `lines_begin` sets a walk to the first of these lines
abbrev pub BeginsLines : List ℕ → ℕ → Answer → LineWalk → LineWalk → Type 0
BeginsLines t width answer old new =
    OnUtf8 (t ∷ []) ((answer ≡ done 0) × IsLineWalk new × (lines_of_walk new ≡ shown_lines width (plain t))) ((answer ≡ failed not_utf8) × (new ≡ old))

-- `lines_next` takes the first line off the walk; if there is no line, none is left, and the entry is unchanged
abbrev pub GivesNextLine : LineWalk → LineWalk → LineEntry → LineEntry → Answer → Type 0
GivesNextLine old new old_line line answer =
    ((lines_of_walk old ≡ []) × (lines_of_walk new ≡ []) × (answer ≡ failed no) × (line ≡ old_line))
    ⊎ ((lines_of_walk old ≡ (line.start, line.end) ∷ lines_of_walk new) × (answer ≡ done 0))
