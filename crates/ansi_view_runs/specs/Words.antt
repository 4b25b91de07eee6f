-- What the program's words mean.
use Rattle.std.specs.Prelude.{ℕ, Bool, false, true, not, ◌||◌, List, [], ◌∷◌, ◌++◌, Option, None, codes, fold, is_some, unwrap_or, if◌then◌else◌}
use Rattle.std.specs.Option.{option_map, option_and_then, option_map_or}
use Rattle.std.specs.List.{find}
use Rattle.std.specs.Str.{bytes_eq}
use Rattle.ansi_safe.specs.declared.policy.Links.TheVariants.{Keep, Remove}
use Rattle.ansi_safe.specs.declared.policy.Rest.TheVariants.{Drop, Show}
use Rattle.ansi_safe.specs.Sanitized.{sanitized}
use Rattle.ansi_lines_runs.specs.Words.{at_colon, field_number, end_of}
use Rattle.ansi_cells.specs.declared.shown.Alignment.TheVariants.{Left}
use Rattle.ansi_cells.specs.declared.sides.Side.TheVariants.{End}
use Rattle.ansi_columns.specs.Edits.{Expanded, Sliced, Truncated, Padded}
use Rattle.ansi_view_runs.specs.Edits.{Change, OnColumns, Wrapped}
use Rattle.ansi_view_runs.specs.Views.{Work, with_safe_tails}

-- a slice has a start and an end, with a colon between them
abbrev pub slice_of : List ℕ → Option Change
slice_of fields = option_and_then (λ (f : List ℕ × List ℕ). option_and_then (λ start. option_map (λ end. OnColumns (Sliced start end)) (end_of f.1)) (field_number f.0)) (at_colon fields)

-- a truncation has a width and, after a colon, any tail; without a colon the tail is empty
abbrev pub truncate_of : List ℕ → Option Change
truncate_of fields =
    let f = unwrap_or (at_colon fields) (fields, []) in
    option_map (λ width. OnColumns (Truncated End width f.1)) (field_number f.0)

-- blanks follow a text that is padded
abbrev pub padded_to : ℕ → Change
padded_to width = OnColumns (Padded width Left)

-- what a name asks for, with the field after its colon
abbrev pub change_named : List ℕ → List ℕ → Option Change
change_named name field =
    if bytes_eq name (codes "expand") then option_map (λ stop. OnColumns (Expanded stop)) (field_number field)
    else if bytes_eq name (codes "slice") then slice_of field
    else if bytes_eq name (codes "truncate") then truncate_of field
    else if bytes_eq name (codes "pad") then option_map padded_to (field_number field)
    else if bytes_eq name (codes "wrap") then option_map Wrapped (field_number field)
    else None

-- a word asks for a change by its name, a colon and a field
abbrev pub change_asked : List ℕ → Option Change
change_asked word = option_and_then (λ (f : List ℕ × List ℕ). change_named f.0 f.1) (at_colon word)

-- `show`, `links` and `plain` are words of the program, and so are words that ask for a change
abbrev pub is_word : List ℕ → Bool
is_word word = bytes_eq word (codes "show") || (bytes_eq word (codes "links") || (bytes_eq word (codes "plain") || is_some (change_asked word)))

-- no other word is; this is the first of them
abbrev pub bad_word : List (List ℕ) → Option (List ℕ)
bad_word words = find (λ word. not (is_word word)) words

-- without a word, what isn't allowed is left out, links too, sequences aren't stripped, and nothing is changed by columns
abbrev pub first_work : Work
first_work = record { view = record { policy = record { rest = Drop; links = Remove }; plain = false }; changes = [] }

-- what a word asks for: `show` that what isn't allowed is shown, `links` that clean links stay, `plain` that sequences are stripped first, and any other word one more change
abbrev pub with_word : Work → List ℕ → Work
with_word work word =
    if bytes_eq word (codes "show") then record work { view = record work.view { policy = record work.view.policy { rest = Show } } }
    else if bytes_eq word (codes "links") then record work { view = record work.view { policy = record work.view.policy { links = Keep } } }
    else if bytes_eq word (codes "plain") then record work { view = record work.view { plain = true } }
    else option_map_or (λ change. record work { changes = work.changes ++ change ∷ [] }) (change_asked word) work

-- what words name together
abbrev pub work_named : List (List ℕ) → Work
work_named words = fold with_word first_work words

-- what words ask for: what they name, with tails that are safe, whichever word comes first
abbrev pub view_asked : List (List ℕ) → Work
view_asked words = with_safe_tails (work_named words)

-- where the words are listed
abbrev pub where_words_are : List ℕ
where_words_are = codes ": `ansi_view --help` lists the words\n"

-- a bad word is shown, made safe
abbrev pub message_of_word : List ℕ → List ℕ
message_of_word word = codes "bad word: " ++ sanitized (record { rest = Show; links = Remove }) word ++ where_words_are
