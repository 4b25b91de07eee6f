-- What is made of an input, line by line.
use Rattle.std.specs.Prelude.{ℕ, ◌==◌, List, [], ◌∷◌, ◌++◌, map, length, codes, if◌then◌else◌}
use Rattle.std.specs.List.{join_by}
use Rattle.std.specs.Str.Lossy.{utf8_lossy}
use Rattle.ansi_items.specs.Plain.{plain, marks}
use Rattle.ansi_style.specs.Styled.{style_after}
use Rattle.ansi_style.specs.Written.{start}
use Rattle.ansi_safe.specs.Links.{link_of}
use Rattle.ansi_safe.specs.Sanitized.{cleaned, sanitized}
use Rattle.ansi_view_runs.specs.declared.view.View.{View}
use Rattle.ansi_view_runs.specs.Edits.{Change, tail_of, with_tail, changed_in_turn}
use Rattle.ansi_view_runs.specs.Lines.{Line, lines}

-- the words ask for a view, by which each line is made safe, and for changes of what it then is, in turn
pub record Work : Type 0 where
  pub view : View
  pub changes : List Change

-- a tail is made safe by the policy, as the text of a line is (own)
abbrev pub with_safe_tails : Work → Work
with_safe_tails work = record work { changes = map (λ change. with_tail (sanitized work.view.policy (tail_of change)) change) work.changes }

-- the text of bytes, with U+FFFD for each invalid sequence (std's `from_utf8_lossy`); a plain view strips it
abbrev pub decoded : View → List ℕ → List ℕ
decoded view bytes = if view.plain then plain (utf8_lossy bytes) else utf8_lossy bytes

-- what opens what is open at the end of t: the start of its known style, and then the sequence that opened its link (own)
abbrev pub opening_of : List ℕ → List ℕ
opening_of t = start (style_after t) ++ link_of (marks t)

-- the text of a line, after what is open before it
abbrev pub body : View → List ℕ → List ℕ → List ℕ
body view opening text = opening ++ decoded view text

-- the text of a line becomes this text made safe, which ends what it leaves open; a line with nothing but its end has no text (own)
abbrev pub shown : View → List ℕ → Line → List ℕ
shown view opening line = if length line.text == 0 then [] else sanitized view.policy (body view opening line.text)

-- what ends the lines that one line becomes, but for the last: its own end, or a line feed if it has none (own)
abbrev pub line_break : List ℕ → List ℕ
line_break end = if length end == 0 then codes "\n" else end

-- what changes make of a text in turn, with a line break between the texts if they are several, and then this end
abbrev pub changed_line : List Change → List ℕ → List ℕ → List ℕ
changed_line changes t end = join_by (λ t. t) (line_break end) (changed_in_turn changes t) ++ end

-- a line becomes what the changes make of that text, with the line's own end (own)
abbrev pub viewed : Work → List ℕ → Line → List ℕ
viewed work opening line = changed_line work.changes (shown work.view opening line) line.end

-- what is open after a line: what its text leaves open, whatever changes are made of it
abbrev pub opening_after : View → List ℕ → Line → List ℕ
opening_after view opening line =
    if length line.text == 0 then opening else opening_of (cleaned view.policy (body view opening line.text))

-- what lines become in turn, if this is open before them
unfoldable pub viewed_all : Work → List ℕ → List Line → List ℕ
viewed_all work opening [] = []
viewed_all work opening (line ∷ more) = viewed work opening line ++ viewed_all work (opening_after work.view opening line) more

-- what an input becomes: what its lines become in turn, with nothing open before them (own)
abbrev pub view_of : Work → List ℕ → List ℕ
view_of work input = viewed_all work [] (lines input)
