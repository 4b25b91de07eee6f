-- The lines of a text, and the results that are written for them.
use Rattle.std.specs.Prelude.{◌≡◌, ◌==◌, ℕ, List, [], ◌∷◌, ◌++◌, Bool, true, false, Option, None, Some, is_none, unwrap_or, if◌then◌else◌}
use Rattle.std.specs.List.{slice_split, flat_map, before_first, position_from}
use Rattle.std.specs.Io.KnownBytes.{append_known}
use Rattle.ansi_str.specs.Plain.{plain}
use Rattle.ansi_str.specs.Edited.{edited}
use Rattle.ansi_lines_runs.specs.Words.{Work, Stripped, Changed}
use Rattle.ansi_io.specs.declared.stop.Stop.{Stop}
use Rattle.ansi_io.specs.declared.stop.Stop.TheVariants.{Refused, BadInput, OutOfMemory, BadWords, WriteFailed}

-- the byte that ends a line is the line feed of ASCII
abbrev pub line_feed : ℕ
line_feed = 10

-- a line feed ends a line, and no other byte does
abbrev pub is_line_feed : ℕ → Bool
is_line_feed byte = byte == line_feed

-- a line has a text, and is ended if a line feed follows it
pub record Line : Type 0 where
  pub text : List ℕ
  pub ended : Bool

-- the text after the last line feed is a line, if it isn't empty
abbrev pub last_line : List ℕ → List Line
last_line [] = []
last_line (byte ∷ text) = record { text = byte ∷ text; ended = false } ∷ []

-- each piece between line feeds except the last is an ended line
abbrev pub lines_of_pieces : List (List ℕ) → List Line
lines_of_pieces [] = []
lines_of_pieces (last ∷ []) = last_line last
lines_of_pieces (piece ∷ next ∷ more) = record { text = piece; ended = true } ∷ lines_of_pieces (next ∷ more)

-- the lines of a text are the pieces that a line feed ends, and then the text after them
abbrev pub lines : List ℕ → List Line
lines text = lines_of_pieces (slice_split is_line_feed text)

-- a text has this first line, ended or not, and this text follows it
abbrev pub HasFirstLine : List ℕ → List ℕ → Bool → List ℕ → Type 0
HasFirstLine text line ended more = lines text ≡ record { text = line; ended = ended } ∷ lines more

-- the result of a line's text is its plain text, or what the changes in turn make of it, if no change is refused
abbrev pub answer_of : Work → List ℕ → Option (List ℕ)
answer_of Stripped text = Some (plain text)
answer_of (Changed changes) text = edited changes text

-- a line is refused if its text has no result
abbrev pub is_refused : Work → Line → Bool
is_refused work line = is_none (answer_of work line.text)

-- the result of an ended line is ended too
abbrev pub answer_to : Work → Line → List ℕ
answer_to work line = unwrap_or (answer_of work line.text) [] ++ (if line.ended then line_feed ∷ [] else [])

-- the results of a text's lines, in order, up to the first line that is refused
unfoldable pub answers : Work → List ℕ → List ℕ
answers work text = flat_map (answer_to work) (before_first (is_refused work) (lines text))

-- the first line that is refused, of a text whose lines are counted from this number
unfoldable pub first_refused : ℕ → Work → List ℕ → Option ℕ
first_refused number work text = position_from (is_refused work) number (lines text)

-- the result of a text is written if it has one, and nothing is written if it has none
abbrev pub WritesAnswer : Option (List ℕ) → Bool → Option (List ℕ) → Option (List ℕ) → Type 0
WritesAnswer None answered old new = (answered ≡ false) × (new ≡ old)
WritesAnswer (Some answer) answered old new = (answered ≡ true) × (new ≡ append_known old answer)

-- the bytes that a sink has taken since are a beginning of these bytes
pub record WritesBeginning (old new : Option (List ℕ)) (all : List ℕ) : Type 0 where
  pub part : List ℕ
  pub rest : List ℕ
  pub taken : new ≡ append_known old part
  pub whole : all ≡ part ++ rest

-- writing stops because a write failed, or because memory has run out; in the second case no write has failed, and this is so
abbrev pub StopsWriting : Bool → Bool → Type 0 → Stop → Type 0
StopsWriting failed_before failed_after so_far WriteFailed = failed_after ≡ true
StopsWriting failed_before failed_after so_far OutOfMemory = so_far × (failed_after ≡ failed_before)
StopsWriting failed_before failed_after so_far BadInput = ⊥
StopsWriting failed_before failed_after so_far BadWords = ⊥
StopsWriting failed_before failed_after so_far (Refused line) = ⊥
