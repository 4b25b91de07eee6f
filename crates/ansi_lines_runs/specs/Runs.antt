-- What a run writes and reports.
use Rattle.std.specs.Prelude.{◌==◌, ℕ, List, [], Option, None, Some, Result, Ok, Err, String, map, string_bytes, codes, if◌then◌else◌, IsNone, IsSome, ⊤}
use Rattle.std.specs.Option.{option_and_then, option_map_or}
use Rattle.ansi_io.specs.declared.stop.Stop.{Stop}
use Rattle.ansi_io.specs.declared.stop.Stop.TheVariants.{Refused, BadWords, BadInput, WriteFailed, OutOfMemory}
use Rattle.ansi_lines_runs.specs.Lines.{answers, first_refused}
use Rattle.ansi_lines_runs.specs.Words.{work_asked}

-- the bytes of each word
abbrev pub words_of : {Y : Type 0} → List (String Y) → List (List ℕ)
words_of words = map string_bytes words

-- good words ask for something
abbrev pub AreGoodWords : List (List ℕ) → Type 0
AreGoodWords words = IsSome (work_asked words)

-- bad words ask for nothing that the program does
abbrev pub AreBadWords : List (List ℕ) → Type 0
AreBadWords words = IsNone (work_asked words)

-- a run ends because of bad words if they are bad, and for another reason if they are good; with either it may run out of memory
abbrev pub MatchesWords : Stop → List (List ℕ) → Type 0
MatchesWords BadWords words = AreBadWords words
MatchesWords (Refused line) words = AreGoodWords words
MatchesWords BadInput words = AreGoodWords words
MatchesWords WriteFailed words = AreGoodWords words
MatchesWords OutOfMemory words = ⊤

-- what the words make of an input; bad words make nothing
abbrev pub output_of : List (List ℕ) → List ℕ → List ℕ
output_of words input = option_map_or (λ work. answers work input) (work_asked words) []

-- the first line that the words refuse of an input, counted from 1
abbrev pub refused_line : List (List ℕ) → List ℕ → Option ℕ
refused_line words input = option_and_then (λ work. first_refused 1 work input) (work_asked words)

-- if a run has written all that the words make of the input, this is so of the refused line, or of `None`
abbrev pub IfAnswered : Result (Unit {0}) Stop → (Option ℕ → Type 0) → Type 0
IfAnswered (Ok done) Fact = Fact None
IfAnswered (Err (Refused line)) Fact = Fact (Some line)
IfAnswered (Err BadWords) Fact = ⊤
IfAnswered (Err BadInput) Fact = ⊤
IfAnswered (Err WriteFailed) Fact = ⊤
IfAnswered (Err OutOfMemory) Fact = ⊤

-- each status from 2 to 5 has a text of its own
abbrev pub message_of_status : ℕ → List ℕ
message_of_status status =
    if status == 2 then codes "bad words\n"
    else if status == 3 then codes "bad input\n"
    else if status == 4 then codes "write failed\n"
    else if status == 5 then codes "out of memory\n"
    else []
